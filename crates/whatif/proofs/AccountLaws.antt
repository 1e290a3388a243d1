-- The portfolio of an order's account before the order, and orders that add up to 0.
use Rattle.std.proofs.Common.{◌++◌, map, filter, arith, ◌≡◌, ◌∙◌, ℕ, Bool, true, false, cond, List, [], ◌∷◌, Some, None, refl, sym, ap}
use Rattle.std.specs.Prelude.{bytes_eq, find, option_map, pos, unwrap_or}
use Rattle.std.specs.List.{enumerate_from}
use Rattle.std.proofs.lemmas.Int.{ints}
use Rattle.span_tables.specs.Net.{AccountHoldings, holding_of, is_held, net_of, portfolios_of}
use Rattle.span_tables.specs.Orders.{account_of_order, holdings_among, positions_of_order}
use Rattle.span_tables.specs.declared.records.Contract.{Contract}
use Rattle.span_tables.specs.declared.records.OrderRecord.{OrderRecord}
use Rattle.span_tables.specs.declared.records.PositionRecord.{PositionRecord}
use Rattle.span_tables.proofs.MergedLaws.{net_of-append}
use Rattle.binding.proofs.TriedLaws.{after_by_positions, before_by_positions}
use Rattle.binding.specs.OrderBinding.{holdings_after, holdings_before, tried_order}
use Rattle.span_tables.proofs.NameLemmas.{same_name}
use Rattle.span_tables.specs.declared.portfolios.Holding.{Holding}

-- a portfolio that is found belongs to the account
found_of : (portfolios : List AccountHoldings) (account : List ℕ) (p : AccountHoldings)
    → find (λ q. bytes_eq q.account account) portfolios ≡ Some p → p.account ≡ account
found_of [] account p e = cc
found_of (q ∷ portfolios) account p e = by_test (bytes_eq q.account account) refl (found_of portfolios account p) e where
  by_test : (b : Bool) → bytes_eq q.account account ≡ b → (find (λ r. bytes_eq r.account account) portfolios ≡ Some p → p.account ≡ account)
      → cond b (Some q) (find (λ r. bytes_eq r.account account) portfolios) ≡ Some p
      → p.account ≡ account
  by_test true is later found =
      let first : q ≡ p = cc in ap (λ (r : AccountHoldings). r.account) (sym first) ∙ same_name q.account account is
  by_test false is later found = later found

-- the portfolio of an account is the one that is found, if there is one
pub found_is : (portfolios : List AccountHoldings) (account : List ℕ) (holdings : List Holding) (p : AccountHoldings)
    → holdings ≡ holdings_among portfolios account
    → find (λ q. bytes_eq q.account account) portfolios ≡ Some p
    → ◌≡◌ {A = AccountHoldings} (record { account = account; holdings = holdings }) p
found_is portfolios account holdings p among found =
    let holds : holdings ≡ p.holdings = among ∙ ap (λ o. unwrap_or (option_map (λ (q : AccountHoldings). q.holdings) o) []) found in
    let named = found_of portfolios account p found in
    λ k. record { account = sym named k; holdings = holds k }

-- the portfolio before an order is the portfolio of its account among the given portfolios
pub before_is : (contracts : List Contract) (portfolios : List AccountHoldings) (records : List OrderRecord) (order : List ℕ)
    (p : AccountHoldings) → find (λ q. bytes_eq q.account (account_of_order records order)) portfolios ≡ Some p
    → (tried_order contracts portfolios records order).before ≡ p
before_is contracts portfolios records order p found =
    found_is portfolios (account_of_order records order) (holdings_before portfolios records order) p refl found

-- the portfolio before an order holds nothing if its account has none
pub before_is_nothing : (contracts : List Contract) (portfolios : List AccountHoldings) (records : List OrderRecord) (order : List ℕ)
    → find (λ q. bytes_eq q.account (account_of_order records order)) portfolios ≡ None
    → (tried_order contracts portfolios records order).before.holdings ≡ []
before_is_nothing contracts portfolios records order none =
    ap (λ o. unwrap_or (option_map (λ (q : AccountHoldings). q.holdings) o) []) none

-- ---- an order that adds up to 0

-- if all nets are the same, all holdings are the same
pub same_nets : (these those : List PositionRecord) (account : List ℕ)
    → ((contract : List ℕ) → net_of these account contract ≡ net_of those account contract)
    → (xs : List (ℕ × Contract)) → map (holding_of these account) xs ≡ map (holding_of those account) xs
same_nets these those account same [] = refl
same_nets these those account same (x ∷ xs) =
    let rest = same_nets these those account same xs in
    λ k. (let it : Holding = record { contract = x.0; net = same (x.1).id k } in it) ∷ rest k

pub nothing_added : (contracts : List Contract) (positions : List PositionRecord) (records : List OrderRecord) (order : List ℕ)
    → ((contract : List ℕ) → net_of (positions_of_order records order) (account_of_order records order) contract ≡ pos 0)
    → holdings_after contracts (portfolios_of contracts positions) records order
    ≡ holdings_before (portfolios_of contracts positions) records order
nothing_added contracts positions records order none =
    let account = account_of_order records order in
    let more = positions_of_order records order in
    after_by_positions contracts positions records order
    ∙ ap (filter is_held) (same_nets (positions ++ more) positions account (λ contract.
    let sum = net_of-append positions more account contract in
    let nothing = none contract in
    omega (arith, ints, sum, nothing)) (enumerate_from 0 contracts))
    ∙ sym (before_by_positions contracts positions records order)
