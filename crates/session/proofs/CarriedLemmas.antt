-- The holdings of an account under another parameter set: its holdings with the numbers of their contracts in that set,
-- sorted by number.
use Rattle.std.proofs.Common.{◌≡◌, ◌≢◌, ℕ, suc, ◌+◌, ◌<◌, ◌≤◌, ◌⊎◌, Bool, true, false, cond, not, ◌&&◌, List, [], ◌∷◌}
use Rattle.std.proofs.Common.{length, map, filter, get_or, Some, None, slice_get, refl, sym, ap, subst, ◌∙◌, arith, inl, inr}
use Rattle.std.specs.Prelude.{ℤ, pos, ◌+ℤ◌, ◌==◌, All, bytes_eq, filter_map, nat_abs, nat_lt, option_map, unwrap_or}
use Rattle.std.specs.List.{cons_option, enumerate_from, position_or_len}
use Rattle.std.specs.List.Sorted.{IsSortedByKey, IsStableByKey, IsStrictlyIncreasing, ties}
use Rattle.std.specs.Ordering.{is_lt, nat_cmp}
use Rattle.std.proofs.lemmas.Bool.{and_parts, eq-eqb, eqb-true, lt-ltb, ltb-true, ne_eqb, true≢false}
use Rattle.std.proofs.lemmas.Bool.Decides.{nat_tests}
use Rattle.std.proofs.lemmas.Int.{ints}
use Rattle.std.proofs.lemmas.List.{get_or-map, length-map}
use Rattle.std.proofs.lemmas.List.Elements.{All-filter, All-weaker, filter_agree, filter_passes}
use Rattle.std.proofs.lemmas.List.Sorted.{length_permutation}
use Rattle.std.proofs.lemmas.Option.{slice_get_cases}
use Rattle.span_money.specs.Numbers.{int_sum_by}
use Rattle.span_tables.specs.Holdings.{ArePortfolio, fits}
use Rattle.span_tables.specs.Names.{has_repeat}
use Rattle.span_tables.specs.Net.{holdings_of, is_held, net_of}
use Rattle.span_tables.specs.Orders.{net_among}
use Rattle.span_tables.specs.Tables.{rising_by}
use Rattle.span_tables.specs.declared.limits.TheConstants.{MAX_NET}
use Rattle.span_tables.specs.declared.portfolios.Holding.{Holding}
use Rattle.span_tables.specs.declared.records.Contract.{Contract}
use Rattle.span_tables.specs.declared.records.PositionRecord.{PositionRecord}
use Rattle.span_tables.proofs.MergedLaws.{held_fit, net_among_all, numbered}
use Rattle.span_tables.proofs.OrderLaws.{rising_permutation}
use Rattle.span_tables.proofs.StableSort.{sorted_rising}
use Rattle.span_tables.proofs.SumLaws.{int_sum_by-cons, int_sum_by-if}
use Rattle.binding.specs.near.Holdings.{ids_of}
use Rattle.binding.proofs.AccountLaws.{bytes_eq-flip, bytes_eq-refl}
use Rattle.binding.proofs.HoldingLaws.{number_is}
use Rattle.binding.proofs.OrderLaws.{among_within, filter_rise}
use Rattle.binding.proofs.PortfolioLaws.{all_rise, held_holds}
use Rattle.session.specs.Accounts.{contract_of, held_record}
use Rattle.session.specs.near.Carried.{renumbered}

-- ---- holdings by number

-- the holdings of the contract with a number
abbrev of_number : ℕ → List Holding → List Holding
of_number k hs = filter (λ h. h.contract == k) hs

-- the holding of a contract, if the net is not 0
abbrev held_at : ℕ → ℤ → List Holding
held_at k net = filter is_held (record { contract = k; net = net } ∷ [])

-- rising holdings of one contract are at most one
one_held : (k : ℕ) (hs : List Holding) → IsStrictlyIncreasing (map (λ h. h.contract) hs) → All (λ h. h.contract ≡ k) hs
    → All (λ h. nat_abs h.net ≢ 0) hs → hs ≡ held_at k (int_sum_by (λ h. h.net) hs)
one_held k [] rising of held = refl
one_held k (h ∷ []) rising of held =
    let here : h.contract ≡ k = of 0 h (omega arith) in
    let sum = int_sum_by-cons (λ (x : Holding). x.net) h [] in
    let net : h.net ≡ int_sum_by (λ (x : Holding). x.net) (h ∷ []) = omega (arith, ints, sum) in
    sym (ap (λ b. cond (not b) (h ∷ []) []) (ne_eqb (nat_abs h.net) 0 (held 0 h (omega arith))))
    ∙ (λ i. (let it : Holding = record { contract = here i; net = net i } in cond (is_held it) (it ∷ []) []))
one_held k (h ∷ g ∷ hs) rising of held =
    let less = rising 0 (omega arith) in
    let first = of 0 h (omega arith) in
    let second = of 1 h (omega arith) in
    absurd (omega (arith, less, first, second))

-- the holdings of a contract number are determined by their net
number_held : (hs : List Holding) → IsStrictlyIncreasing (map (λ h. h.contract) hs) → All (λ h. nat_abs h.net ≢ 0) hs → (k : ℕ)
    → of_number k hs ≡ held_at k (net_among hs k)
number_held hs rising held k =
    one_held k (of_number k hs) (filter_rise (λ h. h.contract == k) hs rising)
    (All-weaker (λ (h : Holding). (h.contract == k) ≡ true) (λ h. h.contract ≡ k) (λ h e. eqb-true h.contract k e) (of_number k hs)
    (filter_passes (λ (h : Holding). h.contract == k) hs))
    (All-filter (λ (h : Holding). h.contract == k) (λ h. nat_abs h.net ≢ 0) hs held)

-- no holding has a number past all contracts
none_past : (n k : ℕ) (hs : List Holding) → fits n hs ≡ true → n ≤ k → of_number k hs ≡ []
none_past n k [] fit le = refl
none_past n k (h ∷ hs) fit le =
    let parts = and_parts (nat_lt h.contract n) (fits n hs) fit in
    let lt = ltb-true h.contract n parts.0 in
    ap (λ b. cond b (h ∷ of_number k hs) (of_number k hs)) (ne_eqb h.contract k (λ e. omega (arith, e, lt, le)))
    ∙ none_past n k hs parts.1 le

-- a number that is not less
not_less : (a b : ℕ) → b ≤ a → is_lt (nat_cmp a b) ≡ false
not_less a b le = grind (arith, nat_tests, le)

-- two numbers tie if and only if they are equal
tie : (a b : ℕ) → (not (is_lt (nat_cmp a b)) && not (is_lt (nat_cmp b a))) ≡ (b == a)
tie a b = grind (arith, nat_tests)

-- ---- the nets of holdings

-- the contract of a holding
pub contract_at : (contracts : List Contract) (h : Holding) → h.contract < length contracts
    → (x : Contract) × (slice_get contracts h.contract ≡ Some x) × (get_or contracts h.contract x ≡ x) × (contract_of contracts h ≡ x.id)
contract_at contracts h lt = by (slice_get_cases contracts h.contract).1
  where
    by : ((x : Contract) × (h.contract < length contracts) × (slice_get contracts h.contract ≡ Some x)
        × (get_or contracts h.contract x ≡ x)) ⊎ ((length contracts ≤ h.contract) × (slice_get contracts h.contract ≡ None))
        → (x : Contract) × (slice_get contracts h.contract ≡ Some x) × (get_or contracts h.contract x ≡ x)
        × (contract_of contracts h ≡ x.id)
    by (inl found) = (found.0, found.2, found.3, ap (λ o. unwrap_or (option_map (λ (x : Contract). x.id) o) []) found.2)
    by (inr past) = absurd (omega (arith, lt, past.0))

module _ (old : List Contract) (apart : has_repeat (λ x y. bytes_eq x.id y.id) old ≡ false) (account id : List ℕ) where
  eqb_flip : (a b : ℕ) → (a == b) ≡ (b == a)
  eqb_flip a b = grind (arith, nat_tests)

  -- a holding has the contract with an id if and only if it has its index
  same_test : (h : Holding) → h.contract < length old
      → bytes_eq (contract_of old h) id ≡ (h.contract == position_or_len (bytes_eq id) (ids_of old))
  same_test h lt =
      let at = contract_at old h lt in
      ap (λ c. bytes_eq c id) at.3 ∙ bytes_eq-flip (at.0).id id ∙ sym (number_is old id h.contract at.0 apart at.1)
      ∙ eqb_flip (position_or_len (bytes_eq id) (ids_of old)) h.contract

  -- the net of an id, by the records of the holdings, is the net of its contract's index
  pub net_named : (hs : List Holding) → fits (length old) hs ≡ true
      → net_of (map (held_record old account) hs) account id ≡ net_among hs (position_or_len (bytes_eq id) (ids_of old))
  net_named [] fit = refl
  net_named (h ∷ hs) fit =
      let parts = and_parts (nat_lt h.contract (length old)) (fits (length old) hs) fit in
      let test = same_test h (ltb-true h.contract (length old) parts.0) in
      int_sum_by-if (λ (p : PositionRecord). p.quantity) (bytes_eq account account && bytes_eq (contract_of old h) id)
      (held_record old account h)
      (filter (λ p. bytes_eq p.account account && bytes_eq p.contract id) (map (held_record old account) hs))
      ∙ ap (λ b. cond (b && bytes_eq (contract_of old h) id) h.net (pos 0) +ℤ net_of (map (held_record old account) hs) account id)
      (bytes_eq-refl account)
      ∙ (λ i. cond (test i) h.net (pos 0) +ℤ net_named hs parts.1 i)
      ∙ sym (int_sum_by-if (λ (x : Holding). x.net) (h.contract == position_or_len (bytes_eq id) (ids_of old)) h
      (filter (λ (x : Holding). x.contract == position_or_len (bytes_eq id) (ids_of old)) hs))

-- ---- holdings by their contracts' numbers in another parameter set

module _ (old new : List Contract) (apart : has_repeat (λ x y. bytes_eq x.id y.id) old ≡ false)
    (new_apart : has_repeat (λ x y. bytes_eq x.id y.id) new ≡ false) (account : List ℕ) where
  abbrev moved : List Holding → List Holding
  moved hs = filter_map (renumbered old new) hs

  abbrev number : Holding → ℕ
  number h = position_or_len (bytes_eq (contract_of old h)) (ids_of new)

  -- a holding that may be moved, in front of moved ones
  abbrev move : Bool → Holding → List Holding → List Holding
  move b h rest = cons_option (option_map (λ n. record { contract = n; net = h.net }) (cond b (Some (number h)) None)) rest

  moved_fit : (hs : List Holding) → fits (length new) (moved hs) ≡ true
  moved_fit [] = refl
  moved_fit (h ∷ hs) = by (nat_lt (number h) (length (ids_of new))) refl (moved_fit hs)
    where
      by : (b : Bool) → nat_lt (number h) (length (ids_of new)) ≡ b → fits (length new) (moved hs) ≡ true
          → fits (length new) (move b h (moved hs)) ≡ true
      by true e more =
          ap (λ n. nat_lt (number h) n && fits (length new) (moved hs)) (sym (length-map new (λ (x : Contract). x.id)))
          ∙ ap (λ b. b && fits (length new) (moved hs)) e ∙ more
      by false e more = more

  moved_few : (hs : List Holding) → length (moved hs) ≤ length hs
  moved_few [] = omega arith
  moved_few (h ∷ hs) = by (nat_lt (number h) (length (ids_of new))) (moved_few hs)
    where
      by : (b : Bool) → length (moved hs) ≤ length hs → length (move b h (moved hs)) ≤ suc (length hs)
      by true more = omega (arith, more)
      by false more = omega (arith, more)

  module _ (k : ℕ) (x : Contract) (at : slice_get new k ≡ Some x) (lt : k < length new) where
    abbrev old_number : ℕ
    old_number = position_or_len (bytes_eq x.id) (ids_of old)

    abbrev here : Holding → Holding
    here h = record { contract = k; net = h.net }

    -- a holding is moved to a number if its contract has it
    move_here : (b c : Bool) (h : Holding) (rest : List Holding) → nat_lt (number h) (length (ids_of new)) ≡ b → (number h == k) ≡ c
        → of_number k (move b h rest) ≡ cond c (here h ∷ of_number k rest) (of_number k rest)
    move_here true true h rest e is =
        ap (λ t. cond t ((let it : Holding = record { contract = number h; net = h.net } in it) ∷ of_number k rest) (of_number k rest)) is
        ∙ ap (λ n. (let it : Holding = record { contract = n; net = h.net } in it) ∷ of_number k rest) (eqb-true (number h) k is)
    move_here true false h rest e is =
        ap (λ t. cond t ((let it : Holding = record { contract = number h; net = h.net } in it) ∷ of_number k rest) (of_number k rest)) is
    move_here false true h rest e is =
        let same = eqb-true (number h) k is in
        let size = length-map new (λ (y : Contract). y.id) in
        let below : nat_lt (number h) (length (ids_of new)) ≡ true =
        lt-ltb (number h) (length (ids_of new)) (omega (arith, same, size, lt)) in
        absurd cc
    move_here false false h rest e is = refl

    -- the moved holdings of a number are the holdings of its contract
    moved_here : (hs : List Holding) → fits (length old) hs ≡ true → of_number k (moved hs) ≡ map here (of_number old_number hs)
    moved_here [] fit = refl
    moved_here (h ∷ hs) fit = by (h.contract == old_number) (sym test) (moved_here hs parts.1)
      where
        parts : (nat_lt h.contract (length old) ≡ true) × (fits (length old) hs ≡ true)
        parts = and_parts (nat_lt h.contract (length old)) (fits (length old) hs) fit

        test : (number h == k) ≡ (h.contract == old_number)
        test =
            number_is new (contract_of old h) k x new_apart at
            ∙ same_test old apart account x.id h (ltb-true h.contract (length old) parts.0)

        by : (c : Bool) → c ≡ (number h == k) → of_number k (moved hs) ≡ map here (of_number old_number hs)
            → of_number k (moved (h ∷ hs)) ≡ map here (cond c (h ∷ of_number old_number hs) (of_number old_number hs))
        by true is more =
            move_here (nat_lt (number h) (length (ids_of new))) true h (moved hs) refl (sym is) ∙ ap (λ rest. here h ∷ rest) more
        by false is more = move_here (nat_lt (number h) (length (ids_of new))) false h (moved hs) refl (sym is) ∙ more

    here_held : (j : ℕ) (net : ℤ) → map here (held_at j net) ≡ held_at k net
    here_held j net = by (nat_abs net == 0)
      where
        by : (b : Bool) → map here (cond (not b) (record { contract = j; net = net } ∷ []) [])
            ≡ cond (not b) (record { contract = k; net = net } ∷ []) []
        by true = refl
        by false = refl

  module _ (hs : List Holding) (fit : fits (length old) hs ≡ true) (portfolio : ArePortfolio hs) where
    abbrev net : ℕ → Contract → ℤ
    net k x = net_of (map (held_record old account) hs) account x.id

    abbrev under : List Holding
    under = holdings_of new (map (held_record old account) hs) account

    under_nets : All (λ h. nat_abs h.net ≢ 0) under
    under_nets =
        All-weaker (λ (h : Holding). is_held h ≡ true) (λ h. nat_abs h.net ≢ 0)
        (λ h e z. true≢false (sym e ∙ ap not (eq-eqb (nat_abs h.net) 0 z))) under
        (filter_passes is_held (map (numbered net) (enumerate_from 0 new)))

    under_held : (k : ℕ) → of_number k under ≡ of_number k (moved hs)
    under_held k = by (slice_get_cases new k).1
      where
        by : ((x : Contract) × (k < length new) × (slice_get new k ≡ Some x) × (get_or new k x ≡ x))
            ⊎ ((length new ≤ k) × (slice_get new k ≡ None))
            → of_number k under ≡ of_number k (moved hs)
        by (inl found) =
            let x = found.0 in
            let old_number = position_or_len (bytes_eq x.id) (ids_of old) in
            number_held under (all_rise net new) under_nets k
            ∙ ap (held_at k) (net_among_all net 0 k k x new found.2 (omega arith) ∙ net_named old apart account x.id hs fit)
            ∙ sym (moved_here k x found.2 found.1 hs fit
            ∙ ap (map (here k x found.2 found.1)) (number_held hs portfolio.rising portfolio.held old_number)
            ∙ here_held k x found.2 found.1 old_number (net_among hs old_number))
        by (inr past) =
            none_past (length new) k under (held_fit net 0 (length new) new (omega arith)) past.0
            ∙ sym (none_past (length new) k (moved hs) (moved_fit hs) past.0)

    under_sorted : IsSortedByKey (λ (h : Holding). h.contract) nat_cmp under
    under_sorted k d from lt =
        let size = length-map under (λ (h : Holding). h.contract) in
        let less = all_rise net new k (omega (arith, lt, size)) in
        let first = get_or-map (λ (h : Holding). h.contract) under k d 0 (omega (arith, lt)) in
        let second = get_or-map (λ (h : Holding). h.contract) under (k + 1) d 0 lt in
        not_less (get_or under (k + 1) d).contract (get_or under k d).contract (omega (arith, less, first, second))

    under_stable : IsStableByKey (λ (h : Holding). h.contract) nat_cmp (moved hs) under
    under_stable a =
        let same = λ (y : Holding). tie a.contract y.contract in
        let tied = ties (λ (x y : Holding). is_lt (nat_cmp x.contract y.contract)) a in
        filter_agree tied (λ y. y.contract == a.contract) same under ∙ under_held a.contract
        ∙ sym (filter_agree tied (λ y. y.contract == a.contract) same (moved hs))

    -- they are the holdings of the same contracts under the other parameter set
    pub under_is : under ≡ rising_by (λ h. h.contract) (moved hs)
    under_is = sorted_rising (λ (h : Holding). h.contract) (moved hs) under under_sorted under_stable

    -- which are a portfolio, too
    pub carried_holds : ArePortfolio under
    carried_holds =
        held_holds net new
        (λ k x e. subst (λ z. nat_abs z ≤ MAX_NET) (sym (net_named old apart account x.id hs fit))
        (among_within hs portfolio (position_or_len (bytes_eq x.id) (ids_of old))))
        (let few = moved_few hs in
        let same = ap length under_is in
        let size = length_permutation (moved hs) (rising_by (λ (h : Holding). h.contract) (moved hs))
        (rising_permutation (λ (h : Holding). h.contract) (moved hs)) in
        let most = portfolio.few in
        omega (arith, few, same, size, most))
