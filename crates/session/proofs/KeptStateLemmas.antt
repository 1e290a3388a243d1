-- The invariant of a session's state: it holds when the session is opened, and all requests keep it.
use Rattle.std.proofs.Common.{◌≡◌, ◌∙◌, ℕ, ◌+◌, ◌≤◌, Bool, true, false, cond, not, ◌&&◌, List, [], ◌∷◌, ◌++◌, length, map, filter}
use Rattle.std.proofs.Common.{None, Ok, refl, sym, ap, subst, arith, get_or, inl, inr}
use Rattle.std.specs.Prelude.{ℤ, ◌+ℤ◌, ⊤, bytes_eq, is_some, nat_le}
use Rattle.std.specs.Cmp.Lexicographic.{nat_list_eq_equiv}
use Rattle.std.specs.List.{AllByRecursion, IsDistinct}
use Rattle.std.proofs.lemmas.Bool.{cases_Bool, leb-false}
use Rattle.std.proofs.lemmas.List.{length-append, length-map}
use Rattle.std.proofs.lemmas.List.Elements.{All-from_recursion, All-map, All-weaker, recursion_from_All}
use Rattle.std.proofs.lemmas.List.Folds.{list_any_at}
use Rattle.std.proofs.lemmas.Map.Keys.{IsDistinct-push}
use Rattle.span_tables.specs.Holdings.{ArePortfolio, fits}
use Rattle.span_tables.specs.Names.{has_repeat, is_among, is_name}
use Rattle.span_tables.specs.Net.{AccountHoldings, accounts_of, holdings_of, is_held, net_of, portfolios_of}
use Rattle.span_tables.specs.Orders.{holdings_among, net_among}
use Rattle.span_tables.specs.Tables.{AcceptedTables}
use Rattle.span_tables.specs.declared.limits.TheConstants.{MAX_ACCOUNTS}
use Rattle.span_tables.specs.declared.portfolios.Holding.{Holding}
use Rattle.span_tables.specs.declared.records.Contract.{Contract}
use Rattle.span_tables.specs.declared.records.PositionRecord.{PositionRecord}
use Rattle.span_tables.proofs.MergedLaws.{held_fit, held_of_all, net_among_all, same_numbered}
use Rattle.span_tables.proofs.NameLemmas.{is_among-distinct, same_name}
use Rattle.acceptance.proofs.AccountLemmas.{bound_once}
use Rattle.binding.specs.Binding.{bind_fault, bindings_of}
use Rattle.binding.specs.Trades.{trade_fault}
use Rattle.binding.specs.declared.trades.Trade.{Trade}
use Rattle.binding.proofs.AcceptedLaws.{fit_of_none}
use Rattle.binding.proofs.AccountLaws.{bytes_eq-refl}
use Rattle.binding.proofs.PortfolioLaws.{few_from, portfolio_holds}
use Rattle.binding.proofs.TraderLaws.{after_holds}
use Rattle.binding.proofs.TriedLaws.{among_holds}
use Rattle.statement_text.specs.Statement.{accepted_of}
use Rattle.statement_text.proofs.AcceptedFiles.{bound_are}
use Rattle.session.specs.Accounts.{account_named, held_records, under_contracts, with_account}
use Rattle.session.specs.Answers.{State, has_no_place, opened}
use Rattle.session.specs.Conversations.{Turn, booked_records, state_behind}
use Rattle.session.specs.near.Kept.{AreOnce}
use Rattle.session.specs.near.KeptStates.{IsKeptAccount, IsKeptState, by_number}
use Rattle.session.proofs.AccountLemmas.{name_flip}
use Rattle.session.proofs.CarriedLemmas.{carried_holds}
use Rattle.session.proofs.CarryLemmas.{under_once}
use Rattle.session.proofs.KeepLemmas.{after_trades, state_filled, state_under, turns_keep}
use Rattle.session.proofs.ReadStateLemmas.{accepted_ids, opened_is, positions_read}

-- ---- holdings by contract index

-- holdings computed from nets are in the order of contracts
numbered_held : (contracts : List Contract) (net : ℕ → Contract → ℤ)
    → by_number contracts (held_of_all net 0 contracts) ≡ held_of_all net 0 contracts
numbered_held contracts net =
    ap (filter is_held) (same_numbered (λ k x. net_among (held_of_all net 0 contracts) k) net 0 contracts
    (λ k x e. net_among_all net 0 k (0 + k) x contracts e refl))

-- and have known contracts
pub numbered_fit : (contracts : List Contract) (holdings : List Holding) → by_number contracts holdings ≡ holdings
    → fits (length contracts) holdings ≡ true
numbered_fit contracts holdings is =
    subst (λ hs. fits (length contracts) hs ≡ true) is
    (held_fit (λ k x. net_among holdings k) 0 (length contracts) contracts (omega arith))

-- ---- accounts

abbrev names_of : List AccountHoldings → List (List ℕ)
names_of ps = map (λ p. p.account) ps

-- an account is known if its name is among the names of the accounts
known_by_name : (name : List ℕ) (ps : List AccountHoldings) → is_some (account_named ps name) ≡ is_among (names_of ps) name
known_by_name name [] = refl
known_by_name name (q ∷ ps) =
    elim (cases_Bool (bytes_eq name q.account)) [
      | inl same ↦ rw (name_flip q.account name, same) refl
      | inr other ↦ rw (name_flip q.account name, other) (known_by_name name ps)
    ]

module _ (p : AccountHoldings) where
  -- the accounts with one more kept account
  accounts_kept : (contracts : List Contract) (ps : List AccountHoldings) → IsKeptAccount contracts p
      → AllByRecursion (IsKeptAccount contracts) ps → AllByRecursion (IsKeptAccount contracts) (with_account ps p)
  accounts_kept contracts [] kept all = (kept, tt)
  accounts_kept contracts (q ∷ ps) kept all =
      elim (cases_Bool (bytes_eq p.account q.account)) [
        | inl same ↦ rw same (kept, all.1)
        | inr other ↦ rw other (all.0, accounts_kept contracts ps kept all.1)
      ]

  -- the name of one more account is appended, if it is new
  names_with : (ps : List AccountHoldings)
      → names_of (with_account ps p) ≡ cond (is_among (names_of ps) p.account) (names_of ps) (names_of ps ++ p.account ∷ [])
  names_with [] = refl
  names_with (q ∷ ps) =
      elim (cases_Bool (bytes_eq p.account q.account)) [
        | inl same ↦ rw same (ap (λ name. name ∷ names_of ps) (same_name p.account q.account same))
        | inr other ↦
            let rest = ap (λ names. q.account ∷ names) (names_with ps) in rw other (rest ∙ front (is_among (names_of ps) p.account))
      ]
    where
      front : (b : Bool) → q.account ∷ cond b (names_of ps) (names_of ps ++ p.account ∷ [])
          ≡ cond b (names_of (q ∷ ps)) (names_of (q ∷ ps) ++ p.account ∷ [])
      front true = refl
      front false = refl

  -- accounts stay distinct
  once_with : (ps : List AccountHoldings) → AreOnce ps → AreOnce (with_account ps p)
  once_with ps once = subst (IsDistinct bytes_eq) (sym (names_with ps)) (by (is_among (names_of ps) p.account) refl)
    where
      by : (b : Bool) → is_among (names_of ps) p.account ≡ b
          → IsDistinct bytes_eq (cond b (names_of ps) (names_of ps ++ p.account ∷ []))
      by true old = once
      by false new = IsDistinct-push nat_list_eq_equiv (names_of ps) p.account once new

  -- an account for which there is room is not one too many
  few_with : (s : State) → has_no_place s p.account ≡ false → length s.accounts ≤ MAX_ACCOUNTS
      → length (with_account s.accounts p) ≤ MAX_ACCOUNTS
  few_with s place few =
      by (is_among (names_of s.accounts) p.account) (ap length (names_with s.accounts))
      (ap (λ b. not b && nat_le MAX_ACCOUNTS (length s.accounts)) (sym (known_by_name p.account s.accounts)) ∙ place)
    where
      before : length (names_of s.accounts) ≡ length s.accounts
      before = length-map s.accounts (λ q. q.account)

      after : length (names_of (with_account s.accounts p)) ≡ length (with_account s.accounts p)
      after = length-map (with_account s.accounts p) (λ q. q.account)

      by : (b : Bool)
          → length (names_of (with_account s.accounts p))
          ≡ length (cond b (names_of s.accounts) (names_of s.accounts ++ p.account ∷ []))
          → (not b && nat_le MAX_ACCOUNTS (length s.accounts)) ≡ false → length (with_account s.accounts p) ≤ MAX_ACCOUNTS
      by true size place = omega (arith, before, after, size, few)
      by false size place =
          let fewer = leb-false MAX_ACCOUNTS (length s.accounts) place in
          let one = length-append (names_of s.accounts) (p.account ∷ []) in
          omega (arith, before, after, size, fewer, one)

-- ---- the state after a FILL

-- it keeps the invariant
fill_keeps : (s : State) (account : List ℕ) (u : Trade) (us : List Trade) → is_name account ≡ true → has_no_place s account ≡ false
    → trade_fault s.tables.contracts (holdings_among s.accounts account) account (u ∷ us) ≡ None → IsKeptState s
    → IsKeptState (state_filled s account (u ∷ us))
fill_keeps s account u us named place none kept =
    let held = holdings_among s.accounts account in
    let after = after_trades s account (u ∷ us) in
    let portfolios = All-weaker (IsKeptAccount s.tables.contracts) (λ p. ArePortfolio p.holdings) (λ p one. one.portfolio) s.accounts
    (All-from_recursion (IsKeptAccount s.tables.contracts) s.accounts kept.accounts) in
    let one : IsKeptAccount s.tables.contracts after = record {
      named = named;
      portfolio = after_holds s.tables.contracts held account (u ∷ us) kept.apart (among_holds account s.accounts portfolios) (omega arith)
          none;
      numbered = numbered_held s.tables.contracts (λ k x. net_among held k +ℤ net_of (booked_records account (u ∷ us)) account x.id);
    } in
    record {
      apart = kept.apart;
      named = kept.named;
      once = once_with after s.accounts kept.once;
      few = few_with after s place kept.few;
      accounts = accounts_kept after s.tables.contracts s.accounts one kept.accounts;
    }

-- ---- the state under another parameter set

module _ (old new : List Contract) (apart : has_repeat (λ x y. bytes_eq x.id y.id) old ≡ false)
    (new_apart : has_repeat (λ x y. bytes_eq x.id y.id) new ≡ false) where
  under_kept : (ps : List AccountHoldings) → AllByRecursion (IsKeptAccount old) ps
      → AllByRecursion (IsKeptAccount new) (map (under_contracts old new) ps)
  under_kept [] all = tt
  under_kept (p ∷ ps) all = (
    record {
      named = all.0.named;
      portfolio = carried_holds old new apart new_apart p.account p.holdings (numbered_fit old p.holdings all.0.numbered) all.0.portfolio;
      numbered = numbered_held new (λ k x. net_of (held_records old p) p.account x.id);
    },
    under_kept ps all.1,
  )

-- it keeps the invariant, too
set_keeps : (s : State) (params : List ℕ) (t : AcceptedTables) → accepted_of params ≡ Ok t → IsKeptState s → IsKeptState (state_under s t)
set_keeps s params t accepted kept =
    let ids = accepted_ids params t accepted in
    record {
      apart = ids.apart;
      named = ids.named;
      once = under_once s.tables.contracts t.contracts s.accounts kept.once;
      few = subst (λ n. n ≤ MAX_ACCOUNTS) (sym (length-map s.accounts (under_contracts s.tables.contracts t.contracts))) kept.few;
      accounts = under_kept s.tables.contracts t.contracts kept.apart ids.apart s.accounts kept.accounts;
    }

-- ---- an opened state

-- an account among the accounts of records is a name
named_among : (ps : List PositionRecord) → AllByRecursion (λ p. is_name p.account ≡ true) ps → (name : List ℕ)
    → is_among (map (λ (p : PositionRecord). p.account) ps) name ≡ true → is_name name ≡ true
named_among [] all name among = cc
named_among (p ∷ ps) all name among =
    elim (cases_Bool (bytes_eq name p.account)) [
      | inl same ↦ subst (λ n. is_name n ≡ true) (sym (same_name name p.account same)) all.0
      | inr other ↦ named_among ps all.1 name (rw other at among)
    ]

-- the accounts of records without a fault
portfolios_kept : (contracts : List Contract) (ps : List PositionRecord) → bind_fault contracts ps ≡ None
    → AllByRecursion (λ p. is_name p.account ≡ true) ps
    → AllByRecursion (IsKeptAccount contracts) (portfolios_of contracts ps)
unfolding portfolios_of
portfolios_kept contracts ps none named =
    let names = map (λ (p : PositionRecord). p.account) ps in
    let fit = fit_of_none contracts ps none in
    let held_as : List ℕ → AccountHoldings = λ name. record { account = name; holdings = holdings_of contracts ps name } in
    recursion_from_All (IsKeptAccount contracts) (map held_as (accounts_of ps))
    (All-map (IsKeptAccount contracts) held_as (accounts_of ps) (λ k d lt.
    let name = get_or (accounts_of ps) k d in
    let among : is_among names name ≡ true =
    sym (is_among-distinct names name) ∙ list_any_at (bytes_eq name) (accounts_of ps) k d lt (bytes_eq-refl name) in
    record {
      named = named_among ps named name among;
      portfolio = portfolio_holds contracts ps name fit.within (few_from contracts ps name ps among fit.few);
      numbered = numbered_held contracts (λ j x. net_of ps name x.id);
    }))

opened_keeps : (params positions : List ℕ) (s : State) → opened params positions ≡ Ok s → IsKeptState s
unfolding portfolios_of bindings_of
opened_keeps params positions s e =
    let is = opened_is params positions s e in
    let ids = accepted_ids params s.tables is.accepted in
    let all = positions_read positions is.records is.read in
    let bound = bound_are s.tables is.records s.accounts is.bound in
    let none = bound.0 in
    let size = ap length bound.1 in
    let few : length s.accounts ≤ MAX_ACCOUNTS = subst (λ n. n ≤ MAX_ACCOUNTS)
    (sym (length-map (accounts_of is.records) (λ name. record {
      account = name;
      holdings = holdings_of s.tables.contracts is.records name;
    })) ∙ size) all.few in
    record {
      apart = ids.apart;
      named = ids.named;
      once = bound_once s.tables.contracts is.records s.accounts (rw none (ap Ok bound.1));
      few = few;
      accounts = subst (AllByRecursion (IsKeptAccount s.tables.contracts)) bound.1
          (portfolios_kept s.tables.contracts is.records none all.named);
    }

-- ---- the state after all requests

-- a state that a session reaches
pub kept_behind : (params positions : List ℕ) (s : State) (turns : List Turn) → opened params positions ≡ Ok s
    → IsKeptState (state_behind s turns)
kept_behind params positions s turns begun =
    turns_keep (λ rs. IsKeptState) ⊤ (λ rs. fill_keeps) (λ sets rs. set_keeps) turns [] s (λ set. tt)
    (opened_keeps params positions s begun)
