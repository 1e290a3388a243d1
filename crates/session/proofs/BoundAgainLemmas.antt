-- The position records of a session's accounts are bound to the same accounts again.
use Rattle.std.proofs.Common.{◌≡◌, ◌∙◌, ◌⊎◌, inl, inr, ℕ, ◌+◌, ◌<◌, ◌≤◌, Bool, true, false, cond, not, ◌&&◌, ◌==◌}
use Rattle.std.proofs.Common.{List, [], ◌∷◌, ◌++◌, length, map, filter, get_or, Ok, refl, sym, ap, subst, arith}
use Rattle.std.specs.Prelude.{All, bytes_eq, nat_abs, nat_lt, pos}
use Rattle.std.specs.List.{AllByRecursion, IsDistinct, list_any, position_or_len}
use Rattle.std.proofs.Math.Bool.{or-false}
use Rattle.std.proofs.lemmas.Bool.{and_parts, eqb-true, le-ltb, lt-ltb, ltb-true, ne_eqb, or_from}
use Rattle.std.proofs.lemmas.List.{map-id}
use Rattle.std.proofs.lemmas.List.Elements.{All-cons, All-from_recursion, All-nil}
use Rattle.std.proofs.lemmas.List.Folds.{list_any_none}
use Rattle.std.proofs.lemmas.Map.Keys.{any_passes_from_place}
use Rattle.std.proofs.lemmas.Simd.{map-map}
use Rattle.span_csv.specs.PositionFaults.{positions_of}
use Rattle.span_money.specs.Numbers.{int_sum_by}
use Rattle.span_tables.specs.Holdings.{fits}
use Rattle.span_tables.specs.Names.{has_repeat, is_among}
use Rattle.span_tables.specs.Net.{AccountHoldings, accounts_of, holdings_of, is_held, net_of, portfolios_of}
use Rattle.span_tables.specs.Orders.{net_among}
use Rattle.span_tables.specs.declared.limits.TheConstants.{MAX_HELD, MAX_NET}
use Rattle.span_tables.specs.declared.portfolios.Holding.{Holding}
use Rattle.span_tables.specs.declared.records.Contract.{Contract}
use Rattle.span_tables.specs.declared.records.PositionRecord.{PositionRecord}
use Rattle.span_tables.proofs.MergedLaws.{same_numbered}
use Rattle.span_tables.proofs.NameLemmas.{is_among-distinct, same_name}
use Rattle.binding.specs.Binding.{bindings_of, exceeds_held, exceeds_net, is_unknown}
use Rattle.binding.specs.near.Holdings.{ids_of}
use Rattle.binding.proofs.AcceptedLaws.{IsFit, none_of_fit}
use Rattle.binding.proofs.AccountLaws.{bytes_eq-refl}
use Rattle.binding.proofs.FilterMaps.{list_any-map}
use Rattle.binding.proofs.HoldingLaws.{number_is}
use Rattle.binding.proofs.OrderLaws.{among_within}
use Rattle.parts.specs.Parts.{AreApart}
use Rattle.parts.proofs.PartLemmas.{fit_joined, portfolio, portfolios_joined}
use Rattle.statement_text.specs.Statement.{accepted_of, portfolios_under, statement_bound, statement_of, statement_text, statement_under}
use Rattle.session.specs.Accounts.{account_records, contract_of, held_record, position_records}
use Rattle.session.specs.Answers.{State, opened}
use Rattle.session.specs.Conversations.{Turn, state_behind}
use Rattle.session.specs.near.Kept.{AreOnce}
use Rattle.session.specs.near.KeptStates.{IsKeptAccount, IsKeptState}
use Rattle.session.proofs.CarriedLemmas.{contract_at, net_named}
use Rattle.session.proofs.KeptStateLemmas.{kept_behind, numbered_fit}

-- ---- the records of one account

-- The records of an account are the records of some holdings. An account that holds nothing is written as a holding of
-- quantity 0.
pub record AreShown (contracts : List Contract) (account : List ℕ) (holdings : List Holding) : Type 0 where
  pub first : Holding
  pub others : List Holding
  pub are : account_records contracts (record { account = account; holdings = holdings })
      ≡ map (held_record contracts account) (first ∷ others)
  pub fit : fits (length contracts) (first ∷ others) ≡ true
  pub small : All (λ h. nat_abs h.net ≤ MAX_NET) (first ∷ others)
  pub nets : (k : ℕ) → net_among (first ∷ others) k ≡ net_among holdings k

shown : (contracts : List Contract) (account : List ℕ) (holdings : List Holding) → 0 < length contracts
    → fits (length contracts) holdings ≡ true → All (λ h. nat_abs h.net ≤ MAX_NET) holdings → AreShown contracts account holdings
shown [] account holdings some fit small = absurd (omega (arith, some))
shown (x ∷ xs) account [] some fit small = record {
  first = record { contract = 0; net = pos 0 };
  others = [];
  are = refl;
  fit = ap (λ b. b && true) (lt-ltb 0 (length (x ∷ xs)) some);
  small = All-cons (λ (h : Holding). nat_abs h.net ≤ MAX_NET) (record { contract = 0; net = pos 0 }) [] (omega arith)
      (All-nil (λ (h : Holding). nat_abs h.net ≤ MAX_NET));
  nets = λ k. flat (0 == k);
}
  where
    flat : (b : Bool) → int_sum_by (λ (h : Holding). h.net) (cond b (record { contract = 0; net = pos 0 } ∷ []) []) ≡ pos 0
    flat true = refl
    flat false = refl
shown (x ∷ xs) account (h ∷ hs) some fit small = record {
  first = h;
  others = hs;
  are = ap (λ b. cond b (record { account = account; contract = x.id; quantity = pos 0 } ∷ [])
      (map (held_record (x ∷ xs) account) (h ∷ hs))) (ne_eqb (length (h ∷ hs)) 0 (λ e. omega (arith, e)));
  fit = fit;
  small = small;
  nets = λ k. refl;
}

pub account_shown : (contracts : List Contract) (p : AccountHoldings) → 0 < length contracts → IsKeptAccount contracts p
    → AreShown contracts p.account p.holdings
account_shown contracts p some kept =
    shown contracts p.account p.holdings some (numbered_fit contracts p.holdings kept.numbered) kept.portfolio.nets

-- the records of holdings have one name and known contracts
one_name : (contracts : List Contract) (account : List ℕ) (h : Holding) (hs : List Holding)
    → accounts_of (map (held_record contracts account) (h ∷ hs)) ≡ account ∷ []
one_name contracts account h [] = refl
one_name contracts account h (g ∷ hs) =
    ap (λ names. account ∷ filter (λ other. not (bytes_eq other account)) names) (one_name contracts account g hs)
    ∙ ap (λ b. account ∷ cond (not b) (account ∷ []) []) (bytes_eq-refl account)

known : (contracts : List Contract) (h : Holding) → h.contract < length contracts
    → list_any (λ x. bytes_eq x.id (contract_of contracts h)) contracts ≡ true
known contracts h lt =
    let at = contract_at contracts h lt in
    any_passes_from_place (λ x. bytes_eq x.id (contract_of contracts h)) contracts h.contract at.0 at.1
    (ap (bytes_eq (at.0).id) at.3 ∙ bytes_eq-refl (at.0).id)

all_known : (contracts : List Contract) (account : List ℕ) (hs : List Holding) → fits (length contracts) hs ≡ true
    → list_any (is_unknown contracts) (map (held_record contracts account) hs) ≡ false
all_known contracts account [] fit = refl
all_known contracts account (h ∷ hs) fit =
    let parts = and_parts (nat_lt h.contract (length contracts)) (fits (length contracts) hs) fit in
    or_from _ _ (ap not (known contracts h (ltb-true h.contract (length contracts) parts.0))) (all_known contracts account hs parts.1)

-- ---- records that are bound to accounts

-- the records have no fault, and their portfolios are the accounts
pub record AreBound (contracts : List Contract) (ps : List AccountHoldings) (rs : List PositionRecord) : Type 0 where
  pub fit : IsFit contracts rs
  pub portfolios : portfolios_of contracts rs ≡ ps

-- and their accounts are the names of these accounts
pub names_back : (contracts : List Contract) (ps : List AccountHoldings) (rs : List PositionRecord) → AreBound contracts ps rs
    → accounts_of rs ≡ map (λ p. p.account) ps
unfolding portfolios_of
names_back contracts ps rs bound =
    sym (map-map (λ (p : AccountHoldings). p.account) (portfolio contracts rs) (accounts_of rs) ∙ map-id (accounts_of rs))
    ∙ ap (map (λ p. p.account)) bound.portfolios

none_bound : (contracts : List Contract) → AreBound contracts [] []
unfolding portfolios_of
none_bound contracts = record { fit = record { known = refl; within = refl; few = refl }; portfolios = refl }

module _ (contracts : List Contract) (apart : has_repeat (λ x y. bytes_eq x.id y.id) contracts ≡ false) where
  abbrev place : List ℕ → ℕ
  place id = position_or_len (bytes_eq id) (ids_of contracts)

  module _ (p : AccountHoldings) (kept : IsKeptAccount contracts p) (shown : AreShown contracts p.account p.holdings) where
    abbrev own : List PositionRecord
    own = map (held_record contracts p.account) (shown.first ∷ shown.others)

    net_is : (id : List ℕ) → net_of own p.account id ≡ net_among p.holdings (place id)
    net_is id = net_named contracts apart p.account id (shown.first ∷ shown.others) shown.fit ∙ shown.nets (place id)

    held : holdings_of contracts own p.account ≡ p.holdings
    held =
        ap (filter is_held) (same_numbered (λ k x. net_of own p.account x.id) (λ k x. net_among p.holdings k) 0 contracts (λ k x e.
        let number = eqb-true (place x.id) k (number_is contracts x.id k x apart e ∙ bytes_eq-refl x.id) in
        let first : 0 + k ≡ k = omega arith in
        net_is x.id ∙ ap (net_among p.holdings) (number ∙ sym first)))
        ∙ kept.numbered

    -- the records of an account are bound to it
    one_bound : AreBound contracts (p ∷ []) own
    unfolding portfolios_of
    one_bound = record {
      fit = record {
        known = all_known contracts p.account (shown.first ∷ shown.others) shown.fit;
        within = none (exceeds_net own) (λ h. le-ltb MAX_NET (nat_abs (net_of own p.account (contract_of contracts h)))
            (subst (λ n. nat_abs n ≤ MAX_NET) (sym (net_is (contract_of contracts h)))
            (among_within p.holdings kept.portfolio (place (contract_of contracts h)))));
        few = none (exceeds_held contracts own) (λ h. ap (λ hs. nat_lt MAX_HELD (length hs)) held
            ∙ le-ltb MAX_HELD (length p.holdings) kept.portfolio.few);
      };
      portfolios = ap (map (portfolio contracts own)) (one_name contracts p.account shown.first shown.others)
          ∙ (λ i. (let it : AccountHoldings = record { account = p.account; holdings = held i } in it) ∷ []);
    }
      where
        none : (test : PositionRecord → Bool) → ((h : Holding) → test (held_record contracts p.account h) ≡ false)
            → list_any test own ≡ false
        none test never =
            list_any-map test (held_record contracts p.account) (shown.first ∷ shown.others)
            ∙ list_any_none (λ h. test (held_record contracts p.account h)) (shown.first ∷ shown.others)
            (λ k d lt. never (get_or (shown.first ∷ shown.others) k d))

  -- records that are bound to accounts with other names are apart from them
  others_apart : (p : AccountHoldings) (ps : List AccountHoldings) (own more : List PositionRecord) → AreOnce (p ∷ ps)
      → AreBound contracts (p ∷ []) own → AreBound contracts ps more → AreApart own more
  unfolding IsDistinct
  others_apart p ps own more once one others = λ name among.
      let same : name ≡ p.account = same_name name p.account (sym (or-false (bytes_eq name p.account))
      ∙ ap (λ names. is_among names name) (sym (names_back contracts (p ∷ []) own one))
      ∙ is_among-distinct (map (λ (r : PositionRecord). r.account) own) name ∙ among) in
      ap (is_among (map (λ (r : PositionRecord). r.account) more)) same
      ∙ sym (is_among-distinct (map (λ (r : PositionRecord). r.account) more) p.account)
      ∙ ap (λ names. is_among names p.account) (names_back contracts ps more others)
      ∙ list_any_none (bytes_eq p.account) (map (λ (q : AccountHoldings). q.account) ps)
      (All-from_recursion (λ y. bytes_eq p.account y ≡ false) (map (λ (q : AccountHoldings). q.account) ps) once.0)

  -- the records of accounts are bound to them
  all_bound : 0 < length contracts → (ps : List AccountHoldings) → AreOnce ps → AllByRecursion (IsKeptAccount contracts) ps
      → AreBound contracts ps (position_records contracts ps)
  unfolding IsDistinct
  all_bound some [] once kept = none_bound contracts
  all_bound some (p ∷ ps) once kept =
      let own = account_shown contracts p some kept.0 in
      let one : AreBound contracts (p ∷ []) (account_records contracts p) =
      subst (AreBound contracts (p ∷ [])) (sym own.are) (one_bound p kept.0 own) in
      let more = all_bound some ps once.1 kept.1 in
      let others = others_apart p ps (account_records contracts p) (position_records contracts ps) once one more in
      record {
        fit = fit_joined contracts (account_records contracts p) (position_records contracts ps) others one.fit more.fit;
        portfolios = portfolios_joined contracts (account_records contracts p) (position_records contracts ps) others
            ∙ (λ i. one.portfolios i ++ more.portfolios i);
      }

-- ---- a kept state

-- the records of a kept state's accounts are bound to these accounts
pub state_bound : (s : State) → IsKeptState s → (0 < length s.tables.contracts) ⊎ (s.accounts ≡ [])
    → AreBound s.tables.contracts s.accounts (position_records s.tables.contracts s.accounts)
state_bound s kept (inl some) = all_bound s.tables.contracts kept.apart some s.accounts kept.once kept.accounts
state_bound s kept (inr none) =
    subst (λ ps. AreBound s.tables.contracts ps (position_records s.tables.contracts ps)) (sym none) (none_bound s.tables.contracts)

pub bound_again : (s : State) → IsKeptState s → (0 < length s.tables.contracts) ⊎ (s.accounts ≡ [])
    → portfolios_under s.tables (position_records s.tables.contracts s.accounts) ≡ Ok s.accounts
unfolding portfolios_under bindings_of
bound_again s kept some =
    let bound = state_bound s kept some in
    let none = none_of_fit s.tables.contracts (position_records s.tables.contracts s.accounts) bound.fit in
    rw none (ap Ok bound.portfolios)

-- the statement of a file of these records is the statement of the accounts
pub statement_again : (params positions current file : List ℕ) (s : State) (turns : List Turn) → opened params positions ≡ Ok s
    → accepted_of current ≡ Ok (state_behind s turns).tables
    → (0 < length (state_behind s turns).tables.contracts) ⊎ ((state_behind s turns).accounts ≡ [])
    → positions_of file ≡ Ok (position_records (state_behind s turns).tables.contracts (state_behind s turns).accounts)
    → statement_of current file ≡ Ok (statement_text (state_behind s turns).tables (state_behind s turns).accounts)
unfolding statement_of statement_under statement_bound
statement_again params positions current file s turns begun accepted some read =
    let bound = bound_again (state_behind s turns) (kept_behind params positions s turns begun) some in
    rw (accepted, read, bound) refl
