-- The first of the sums that is a number, found by the bits of all lanes.
use Rattle.std.proofs.Common.{◌≡◌, ◌≢◌, ℕ, ◌-◌, ◌%◌, ◌^◌, ◌<◌, ◌≤◌, cond, replicate, List, Bool, true, false, not}
use Rattle.std.proofs.Common.{length, get_or, map, eqb, pos, ℤ, w64, to_z, of_z, arith, ap, sym, subst, ◌∙◌, lit<}
use Rattle.std.specs.Prelude.{All, Contains}
use Rattle.std.specs.List.{prefix_len}
use lib.Count.{count_trailing_zeros}
use lib.Lanes.{mask_l, top, zip2}
use Rattle.std.proofs.lemmas.Bool.{eq-eqb, eqb-true, not-true, not-false}
use Rattle.std.proofs.lemmas.List.{get_or-map, get_or_default, length-map}
use Rattle.std.proofs.lemmas.List.Sums.{prefix_len_passes, prefix_len_stops}
use Rattle.std.proofs.lemmas.Simd.{bitmask_splat, leading_from_mask_l, trailing_mask_l}
use Rattle.span_money.proofs.WordLemmas.{same_64}
use Rattle.span_tables.specs.declared.limits.TheConstants.{MAX_SUM}
use Rattle.scan_risk.proofs.LaneLemmas.{IsWithin, bits_of}

-- a lane has the bits of a number
abbrev pub has : ℤ → ℕ → Bool
has z = λ b. eqb b (of_z w64 z)

-- the first such lane
abbrev pub first_lane : List ℤ → ℤ → ℕ
first_lane sums z = prefix_len (λ (b : ℕ). not (has z b)) (bits_of sums)

-- numbers with the same bits are equal
same_number : (a b : ℤ) → IsWithin MAX_SUM a → IsWithin MAX_SUM b → of_z w64 a ≡ of_z w64 b → a ≡ b
same_number a b x y e = sym (same_64 a MAX_SUM x (lit< tt)) ∙ ap (to_z w64) e ∙ same_64 b MAX_SUM y (lit< tt)

-- the lane of a sum that is the number has its bits
lane_is : (sums : List ℤ) (z : ℤ) (k : ℕ) → k < length sums → get_or sums k (pos 0) ≡ z → has z (get_or (bits_of sums) k 0) ≡ true
lane_is sums z k lt e = eq-eqb _ _ (get_or-map (of_z w64) sums k (pos 0) 0 lt ∙ ap (of_z w64) e)

-- no sum before the first lane is the number
pub before_first : (sums : List ℤ) (z : ℤ) (k : ℕ) → k < length sums → k < first_lane sums z → get_or sums k (pos 0) ≢ z
before_first sums z k lt less e =
    let yes = lane_is sums z k lt e in
    let passes : not (has z (get_or (bits_of sums) k 0)) ≡ true =
    prefix_len_passes (λ (b : ℕ). not (has z b)) (bits_of sums) k 0 less in
    let no = not-true (has z (get_or (bits_of sums) k 0)) passes in
    let both : true ≡ false = sym yes ∙ no in
    cc

-- if the number is among the sums, there is such a lane
pub first_exists : (sums : List ℤ) (z : ℤ) → Contains sums z → first_lane sums z < length sums
first_exists sums z found =
    let at : get_or sums found.0 (pos 0) ≡ z = get_or_default sums found.0 (pos 0) z found.1 ∙ found.2 in
    let never : found.0 < first_lane sums z → ⊥ = λ less. before_first sums z found.0 found.1 less at in
    let lt : found.0 < length sums = found.1 in
    omega (arith, never, lt)

-- the sum of the first lane is the number
pub first_is : (sums : List ℤ) (z : ℤ) → All (IsWithin MAX_SUM) sums → Contains sums z
    → get_or sums (first_lane sums z) (pos 0) ≡ z
first_is sums z small found =
    let i = first_lane sums z in
    let lt : i < length sums = first_exists sums z found in
    let long : length (bits_of sums) ≡ length sums = length-map sums (of_z w64) in
    let stops : not (has z (get_or (bits_of sums) i 0)) ≡ false =
    prefix_len_stops (λ (b : ℕ). not (has z b)) (bits_of sums) 0 (omega arith) in
    let equal : get_or (bits_of sums) i 0 ≡ of_z w64 z = eqb-true _ _ (not-false _ stops) in
    let size : IsWithin MAX_SUM z = subst (IsWithin MAX_SUM) found.2 (small found.0 z found.1) in
    same_number (get_or sums i (pos 0)) z (small i (pos 0) lt) size (sym (get_or-map (of_z w64) sums i (pos 0) 0 lt) ∙ equal)

-- it is the lowest bit of the mask
pub lowest_bit : (sums : List ℤ) (z : ℤ) → length sums ≤ 64 → Contains sums z
    → count_trailing_zeros 64 (mask_l (map (has z) (bits_of sums))) ≡ first_lane sums z
lowest_bit sums z few found =
    let lt : first_lane sums z < length sums = first_exists sums z found in
    let long : length (bits_of sums) ≡ length sums = length-map sums (of_z w64) in
    let some : mask_l (map (has z) (bits_of sums)) ≡ 0 → ⊥ =
    λ none. let all : first_lane sums z ≡ length (bits_of sums) = leading_from_mask_l (has z) (bits_of sums) none in
    absurd (omega arith) in
    let any : 0 < mask_l (map (has z) (bits_of sums)) = omega (arith, some) in
    trailing_mask_l (has z) 64 (bits_of sums) (omega arith) any

-- it is what the code computes from sixteen lanes
pub index_is : (sums : List ℤ) (z : ℤ) → length sums ≡ 16 → Contains sums z
    → count_trailing_zeros 64 (mask_l (map (top 63) (zip2 (λ (a b : ℕ). cond (eqb a b) (2 ^ 64 - 1) 0) (bits_of sums)
    (replicate 16 (of_z w64 z)))) % 2 ^ 64) ≡ first_lane sums z
index_is sums z sixteen found =
    let long : length (bits_of sums) ≡ 16 = length-map sums (of_z w64) ∙ sixteen in
    ap (count_trailing_zeros 64) (bitmask_splat w64 eqb (bits_of sums) 16 (of_z w64 z) long (omega arith))
    ∙ lowest_bit sums z (omega arith) found
