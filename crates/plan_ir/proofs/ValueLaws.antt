-- The option value of an account counts each of its holdings once.
use Rattle.std.proofs.Common.{◌≡◌, ℕ, zero, suc, ◌+◌, ◌<◌, ◌≤◌, Bool, true, false, cond, List, []}
use Rattle.std.proofs.Common.{◌∷◌, length, refl, sym, ap, ◌∙◌, subst, arith, filter}
use Rattle.std.specs.Prelude.{◌==◌, Option, Some, None, ℤ, pos, ◌+ℤ◌, bytes_eq, option_map, slice_get}
use Rattle.std.specs.List.{cons_option, range_with_len}
use Rattle.std.proofs.lemmas.Bool.{eqb-true, eqb-false, ne_eqb}
use Rattle.std.proofs.lemmas.Int.{ints}
use Rattle.std.proofs.lemmas.Option.{get_or_from_slice_get, slice_get_within}
use Rattle.span_money.specs.Numbers.{int_sum_by}
use Rattle.span_tables.specs.Accepted.{IsWithinLimits, commodity_number}
use Rattle.span_tables.specs.Tables.{commodity_id, AcceptedTables}
use Rattle.span_tables.specs.Net.{HeldContract, held_contracts, held_of}
use Rattle.span_tables.specs.declared.portfolios.Holding.{Holding}
use Rattle.span_tables.specs.declared.records.Contract.{Contract}
use Rattle.span_tables.proofs.Places.{place_names}
use Rattle.span_tables.proofs.SumLaws.{int_sum_by-cons, int_sum_by-if}
use Rattle.inter_credit.specs.OptionValue.{net_value_of, position_value}
use Rattle.plan_ir.specs.Figures.{value_to}

-- summing two values of each element gives the sum of the two separate sums
sum_of_both : {X : Type 0} (f g both : X → ℤ) → ((x : X) → both x ≡ f x +ℤ g x) → (xs : List X)
    → int_sum_by both xs ≡ int_sum_by f xs +ℤ int_sum_by g xs
sum_of_both f g both are [] = refl
sum_of_both f g both are (x ∷ xs) =
    let one = int_sum_by-cons f x xs in
    let other = int_sum_by-cons g x xs in
    let split = int_sum_by-cons both x xs in
    let here = are x in
    let rest = sum_of_both f g both are xs in
    omega (arith, ints, one, other, split, here, rest)

-- ---- a value that is counted at the number p only, of all numbers below the end

module _ (end p : ℕ) (v : ℤ) (is_there : ℕ → Bool) (tells : (c : ℕ) → c < end → (p == c) ≡ is_there c) where
  abbrev value_there : ℕ → ℤ
  value_there c = cond (is_there c) v (pos 0)

  value_if : (a : ℕ) (b : Bool) → a < end → (p == a) ≡ b → value_there a ≡ cond b v (pos 0)
  value_if a b lt is = ap (λ there. cond there v (pos 0)) (sym (tells a lt) ∙ is)

  -- nothing is counted after p
  none_behind : (a n : ℕ) → end ≡ a + n → p < a → int_sum_by value_there (range_with_len a n) ≡ pos 0
  none_behind a zero to lt = refl
  none_behind a (suc n) to lt =
      let here = value_if a false (omega (arith, to)) (ne_eqb p a (λ same. omega (arith, same, lt))) in
      let rest = none_behind (a + 1) n (omega (arith, to)) (omega (arith, lt)) in
      let split = int_sum_by-cons value_there a (range_with_len (a + 1) n) in
      omega (arith, ints, here, rest, split)

  -- over a range that includes p the value is counted once
  counted_once : (a n : ℕ) → end ≡ a + n → a ≤ p → p < end → int_sum_by value_there (range_with_len a n) ≡ v
  counted_once a zero to le lt = absurd (omega (arith, to, le, lt))
  counted_once a (suc n) to le lt =
      by (p == a) refl (λ above. counted_once (a + 1) n (omega (arith, to)) above lt) where
        split : int_sum_by value_there (range_with_len a (suc n)) ≡ value_there a +ℤ int_sum_by value_there (range_with_len (a + 1) n)
        split = int_sum_by-cons value_there a (range_with_len (a + 1) n)

        by : (b : Bool) → (p == a) ≡ b → (a + 1 ≤ p → int_sum_by value_there (range_with_len (a + 1) n) ≡ v)
            → int_sum_by value_there (range_with_len a (suc n)) ≡ v
        by true is later =
            let same = eqb-true p a is in
            let here = value_if a true (omega (arith, to)) is in
            let rest = none_behind (a + 1) n (omega (arith, to)) (omega (arith, same)) in
            omega (arith, ints, here, rest, split)
        by false is later =
            let other = eqb-false p a is in
            let here = value_if a false (omega (arith, to)) is in
            let rest = later (omega (arith, le, other)) in
            omega (arith, ints, here, rest, split)

-- ---- held contracts by commodity

module _ (t : AcceptedTables) (limits : IsWithinLimits t) where
  -- the commodity of the contract is one of the tables
  abbrev IsKnown : Contract → Type 0
  IsKnown x = commodity_number t.commodities x.commodity < length t.commodities

  abbrev is_of : ℕ → HeldContract → Bool
  is_of c h = bytes_eq (h.contract).commodity (commodity_id t c)

  -- the value of the held contracts of a commodity
  abbrev worth_at : List HeldContract → ℕ → ℤ
  worth_at held c = int_sum_by position_value (filter (is_of c) held)

  -- the numbers of the commodities
  abbrev numbers : List ℕ
  numbers = range_with_len 0 (length t.commodities)

  -- the value of the held contracts of all commodities
  abbrev worth : List HeldContract → ℤ
  worth held = int_sum_by (worth_at held) numbers

  worth_of_nothing : worth [] ≡ pos 0
  worth_of_nothing =
      let twice = sum_of_both (worth_at []) (worth_at []) (worth_at []) (λ c. refl) numbers in
      omega (arith, ints, twice)

  -- one more held contract is counted at its own commodity only
  worth_more : (h : HeldContract) (held : List HeldContract) → IsKnown h.contract
      → worth (h ∷ held) ≡ position_value h +ℤ worth held
  worth_more h held known =
      let split = sum_of_both (λ c. cond (is_of c h) (position_value h) (pos 0)) (worth_at held) (worth_at (h ∷ held))
      (λ c. int_sum_by-if position_value (is_of c h) h (filter (is_of c) held)) numbers in
      let once = counted_once (length t.commodities) _ (position_value h) (λ c. is_of c h)
      (λ c lt. place_names (λ d. d.id) t.commodities (h.contract).commodity c limits.commodities_apart lt)
      0 (length t.commodities) (omega arith) (omega arith) known in
      omega (arith, ints, split, once)

  contract_known : (k : ℕ) (x : Contract) → slice_get t.contracts k ≡ Some x → IsKnown x
  contract_known k x is =
      subst IsKnown (get_or_from_slice_get t.contracts k x x is) (limits.contracts_known k x (slice_get_within t.contracts k x is))

  -- the sum over all commodities counts each holding
  worth_of_all : (hs : List Holding)
      → worth (held_contracts t.contracts hs) ≡ int_sum_by position_value (held_contracts t.contracts hs)
  worth_of_all [] = worth_of_nothing
  worth_of_all (h ∷ hs) = by (slice_get t.contracts h.contract) refl (worth_of_all hs) where
    held : List HeldContract
    held = held_contracts t.contracts hs

    with_next : Option Contract → List HeldContract
    with_next o = cons_option (option_map (λ x. record { contract = x; net = h.net }) o) held

    by : (o : Option Contract) → slice_get t.contracts h.contract ≡ o → worth held ≡ int_sum_by position_value held
        → worth (with_next o) ≡ int_sum_by position_value (with_next o)
    by None is rest = rest
    by (Some x) is rest =
        let k : HeldContract = record { contract = x; net = h.net } in
        let split = int_sum_by-cons position_value k held in
        let more = worth_more k held (contract_known h.contract x is) in
        omega (arith, ints, rest, split, more)

  -- the option value of an account
  pub value_counts_all : (hs : List Holding)
      → value_to t hs (length t.commodities) ≡ int_sum_by position_value (held_contracts t.contracts hs)
  unfolding value_to net_value_of held_of
  value_counts_all hs = worth_of_all hs
