-- The portfolios that positions are bound to fit the tables.
use Rattle.std.proofs.Common.{◌≡◌, ℕ, ◌+◌, ◌≤◌, ◌<◌, Bool, true, false, cond, List, [], ◌∷◌, get_or, sym, ◌∙◌}
use Rattle.std.proofs.Common.{length, map, filter, Option, Some, None, Ok, refl, subst, arith}
use Rattle.std.specs.Prelude.{All, nat_lt, bytes_eq, slice_index_or}
use Rattle.std.specs.List.{enumerate_from}
use Rattle.std.proofs.lemmas.Bool.Decides.{nat_tests}
use Rattle.std.proofs.lemmas.List.Elements.{All-map}
use Rattle.binding.specs.Binding.{bind_fault, bindings_of}
use Rattle.span_tables.specs.Faults.{ok_unless}
use Rattle.span_tables.specs.Holdings.{fits, ArePortfolio}
use Rattle.span_tables.specs.Net.{AccountHoldings, accounts_of, holding_of, holdings_of, is_held, portfolios_of}
use Rattle.span_tables.specs.declared.portfolios.Holding.{Holding}
use Rattle.span_tables.specs.declared.records.Contract.{Contract}
use Rattle.span_tables.specs.declared.records.PositionRecord.{PositionRecord}
use Rattle.binding.specs.declared.faults.BindFault.{BindFault}
use Rattle.span_tables.specs.Names.{is_among}
use Rattle.span_tables.proofs.NameLemmas.{is_among-distinct}
use Rattle.std.proofs.lemmas.List.Folds.{list_any_at}
use Rattle.binding.proofs.AccountLaws.{bytes_eq-refl}
use Rattle.binding.proofs.PortfolioLaws.{portfolio_holds}
use Rattle.binding.proofs.AcceptedLaws.{fit_of_none, few_held}

fits_if : (n : ℕ) (b : Bool) (h : Holding) (hs : List Holding) → h.contract < n → fits n hs ≡ true
    → fits n (cond b (h ∷ hs) hs) ≡ true
fits_if n true h hs lt rest = let first : nat_lt h.contract n ≡ true = grind (arith, nat_tests, lt) in rw (first) rest
fits_if n false h hs lt rest = rest

numbered_fit : (n k : ℕ) (positions : List PositionRecord) (account : List ℕ) (xs : List Contract) → k + length xs ≤ n
    → fits n (filter is_held (map (holding_of positions account) (enumerate_from k xs))) ≡ true
numbered_fit n k positions account [] le = refl
numbered_fit n k positions account (x ∷ xs) le =
    fits_if n (is_held (holding_of positions account (k, x))) (holding_of positions account (k, x)) _ (omega (arith, le))
    (numbered_fit n (k + 1) positions account xs (omega (arith, le)))

pub bound_fits : (contracts : List Contract) (positions : List PositionRecord) (portfolios : List AccountHoldings)
    → bindings_of contracts positions ≡ Ok portfolios → All (λ p. fits (length contracts) p.holdings ≡ true) portfolios
unfolding bindings_of portfolios_of
bound_fits contracts positions portfolios e = by_fault (bind_fault contracts positions) e where
  by_fault : (o : Option BindFault) → ok_unless o (portfolios_of contracts positions) ≡ Ok portfolios
      → All (λ p. fits (length contracts) p.holdings ≡ true) portfolios
  by_fault (Some f) e = cc
  by_fault None e = let same : portfolios_of contracts positions ≡ portfolios = cc in
      subst (All (λ p. fits (length contracts) p.holdings ≡ true)) same
      (All-map (λ p. fits (length contracts) p.holdings ≡ true)
      (λ account. record { account = account; holdings = holdings_of contracts positions account })
      (accounts_of positions)
      (λ k d lt. numbered_fit (length contracts) 0 positions (slice_index_or (accounts_of positions) k d) contracts (omega arith)))

-- the holdings of each account are a portfolio if the positions have no fault
pub portfolios_hold : (contracts : List Contract) (positions : List PositionRecord) → bind_fault contracts positions ≡ None
    → All (λ p. ArePortfolio p.holdings) (portfolios_of contracts positions)
unfolding portfolios_of
portfolios_hold contracts positions none =
    let names = map (λ (p : PositionRecord). p.account) positions in
    All-map (λ (p : AccountHoldings). ArePortfolio p.holdings)
    (λ name. record { account = name; holdings = holdings_of contracts positions name }) (accounts_of positions) (λ k d lt.
    let name = get_or (accounts_of positions) k d in
    let among : is_among names name ≡ true =
    sym (is_among-distinct names name) ∙ list_any_at (bytes_eq name) (accounts_of positions) k d lt (bytes_eq-refl name) in
    portfolio_holds contracts positions name (fit_of_none contracts positions none).within
    (few_held contracts positions none name among))
