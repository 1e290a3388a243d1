-- The charges of spot months. A spot month that is not held is left out.
use Rattle.std.proofs.Common.{◌≡◌, ◌≢◌, ℕ, ◌+◌, ◌-◌, ◌*◌, ◌<◌, ◌≤◌, List, sym, ap, ◌∙◌}
use Rattle.std.proofs.Common.{subst, arith, get_or, inl, inr, length, nat_abs, set, take, bit_or}
use Rattle.std.specs.Int.{bit_at}
use Rattle.std.specs.Prelude.{◌⊎◌, All, fold}
use Rattle.std.proofs.Math.Nat.{mul-le-mul}
use Rattle.std.proofs.lemmas.Bool.{cases_eq}
use Rattle.std.proofs.lemmas.List.{get_or-set_other, get_or-set_same, get_or_default, length-take}
use Rattle.std.proofs.lemmas.List.Elements.{All-take}
use Rattle.std.proofs.lemmas.List.Sums.{sum_by-le, sum_by_from}
use Rattle.span_tables.specs.Accepted.{IsSpot}
use Rattle.span_tables.specs.declared.limits.TheConstants.{MAX_RATE, MAX_SPOT_MONTHS, MAX_UNITS}
use Rattle.span_tables.specs.declared.records.Spot.{Spot}
use Rattle.span_tables.specs.near.LegIndex.{HasWord}
use Rattle.span_tables.proofs.LegIndexLemmas.{has_bit, left_word, right_word}
use Rattle.spread_stage.specs.Charges.{spot_charge}
use Rattle.spread_stage.specs.Deltas.{units_at}
use Rattle.spread_stage.specs.Months.{AreMonths, Shrinks}
use Rattle.spread_stage.specs.near.SpotIndex.{HasSpot, month_slot}
use Rattle.spread_stage.specs.declared.months.MonthUnits.{MonthUnits}
use Rattle.spread_stage.specs.declared.spot_index.SpotIndex.{SpotIndex}
use Rattle.spread_stage.proofs.SizeLemmas.{left_le, units_at_le}
use Rattle.spread_stage.proofs.BesideLemmas.{no_units}

-- a word of the index was replaced by a word with more spot months
pub spots_kept : (before after : SpotIndex) (slot word : ℕ) → slot < length before.slots → after.slots ≡ set before.slots slot word
    → HasWord word (get_or before.slots slot 0) → (k m : ℕ) → HasSpot before k m → HasSpot after k m
spots_kept before after slot word lt placed more k m has = by (cases_eq (month_slot m) slot)
  where
    by : (month_slot m ≡ slot) ⊎ (month_slot m ≢ slot) → HasSpot after k m
    by (inl same) =
        let old : bit_at (get_or before.slots slot 0) k ≡ 1 = ap (λ n. bit_at (get_or before.slots n 0) k) (sym same) ∙ has in
        ap (λ xs. bit_at (get_or xs (month_slot m) 0) k) placed ∙ ap (λ n. bit_at (get_or (set before.slots slot word) n 0) k) same
        ∙ ap (λ w. bit_at w k) (get_or-set_same before.slots slot word 0 lt) ∙ has_bit word _ k more old
    by (inr other) =
        ap (λ xs. bit_at (get_or xs (month_slot m) 0) k) placed
        ∙ ap (λ w. bit_at w k) (get_or-set_other before.slots slot (month_slot m) word 0 other) ∙ has

-- the index has one more spot month
pub spot_more : (before after : SpotIndex) (spots : List Spot) (number : ℕ) (spot : Spot) → number < length spots
    → HasSpot after number (get_or spots number spot).month → ((k m : ℕ) → HasSpot before k m → HasSpot after k m)
    → ((k : ℕ) (s : Spot) → k < number → HasSpot before k (get_or spots k s).month)
    → (k : ℕ) (s : Spot) → k < number + 1 → HasSpot after k (get_or spots k s).month
spot_more before after spots number spot within added kept all k s lt = by (cases_eq k number)
  where
    by : (k ≡ number) ⊎ (k ≢ number) → HasSpot after k (get_or spots k s).month
    by (inl same) =
        subst (λ n. HasSpot after n (get_or spots n s).month) (sym same)
        (subst (λ (x : Spot). HasSpot after number x.month) (get_or_default spots number spot s within) added)
    by (inr other) = kept k _ (all k s (omega (arith, lt, other)))

-- the spot months of one more month, whose slot is given
pub among_more : (index : SpotIndex) (months : List MonthUnits) (at : ℕ) (month : MonthUnits) → at < length months
    → month ≡ get_or months at month → (slot : ℕ) → slot ≡ month_slot month.month → (found : ℕ)
    → ((k i : ℕ) (m : MonthUnits) → i < at → HasSpot index k (get_or months i m).month → bit_at found k ≡ 1)
    → (k i : ℕ) (m : MonthUnits) → i < at + 1 → HasSpot index k (get_or months i m).month
    → bit_at (bit_or found (get_or index.slots slot 0)) k ≡ 1
among_more index months at month within is slot slot_is found all k i m lt has = by (cases_eq i at)
  where
    word : ℕ
    word = get_or index.slots slot 0

    by : (i ≡ at) ⊎ (i ≢ at) → bit_at (bit_or found word) k ≡ 1
    by (inl same) =
        let here : get_or months i m ≡ month = ap (λ n. get_or months n m) same ∙ sym (is ∙ get_or_default months at month m within) in
        let set_bit : bit_at (get_or index.slots (month_slot month.month) 0) k ≡ 1 =
        subst (λ (x : MonthUnits). HasSpot index k x.month) here has in
        has_bit (bit_or found word) word k (right_word found word)
        (ap (λ n. bit_at (get_or index.slots n 0) k) slot_is ∙ set_bit)
    by (inr other) = has_bit (bit_or found word) found k (left_word found word) (all k i m (omega (arith, lt, other)) has)

module _ (months rests : List MonthUnits) (are : AreMonths months) (shrinks : Shrinks months rests) where
  -- a spot month that is not among the months has no charge
  pub no_charge : (spot : Spot) → ((i : ℕ) (m : MonthUnits) → i < length months → (get_or months i m).month ≢ spot.month)
      → spot_charge months rests spot ≡ 0
  no_charge spot none =
      let units = ap nat_abs (no_units months spot.month none) in
      let le = left_le months rests spot.month shrinks in
      let left : nat_abs (units_at rests spot.month) ≡ 0 = omega (arith, units, le) in
      let used : nat_abs (units_at months spot.month) - nat_abs (units_at rests spot.month) ≡ 0 = omega (arith, units) in
      ap (λ n. n * spot.spread_rate + nat_abs (units_at rests spot.month) * spot.outright_rate) used
      ∙ ap (λ n. 0 * spot.spread_rate + n * spot.outright_rate) left ∙ omega arith

  charge_small : (spot : Spot) → IsSpot spot → spot_charge months rests spot ≤ 2 * (MAX_UNITS * MAX_RATE)
  charge_small spot is =
      let most = units_at_le months spot.month in
      let less = left_le months rests spot.month shrinks in
      let small = are.small in
      let left = nat_abs (units_at rests spot.month) in
      let used = nat_abs (units_at months spot.month) - left in
      let spread = is.spread_rate in
      let outright = is.outright_rate in
      let a : used * spot.spread_rate ≤ MAX_UNITS * MAX_RATE = mul-le-mul {n₂ = MAX_UNITS} (omega (arith, most, small)) spread in
      let b : left * spot.outright_rate ≤ MAX_UNITS * MAX_RATE = mul-le-mul {n₂ = MAX_UNITS} (omega (arith, most, less, small)) outright in
      omega (arith, a, b)

  -- the charges of the first spot months are within the bound of all
  pub charges_small : (spots : List Spot) → length spots ≤ MAX_SPOT_MONTHS → All IsSpot spots → (n sum : ℕ)
      → sum ≡ fold (λ s x. s + spot_charge months rests x) 0 (take n spots) → sum ≤ 2 * (MAX_UNITS * MAX_RATE) * MAX_SPOT_MONTHS
  charges_small spots few in_range n sum is =
      let charge : Spot → ℕ = spot_charge months rests in
      let all = sum_by_from charge 0 (take n spots) in
      let each = All-take IsSpot n spots in_range in
      let most = sum_by-le charge (2 * (MAX_UNITS * MAX_RATE)) (take n spots)
      (λ k x lt. charge_small (get_or (take n spots) k x) (each k x lt)) in
      let long = length-take n spots in
      omega (arith, is, all, most, long, few)
