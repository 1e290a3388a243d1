-- Bounds on the sizes of signed sums. Numbers within the bounds keep their values in 128 bits.
use Rattle.std.proofs.Common.{◌≡◌, ◌+◌, ◌*◌, ◌^◌, ◌<◌, ◌≤◌, ℕ, ℤ, ◌+ℤ◌, ◌-ℤ◌, nat_abs, to_z, of_z, FitsSigned, arith, lit<}
use Rattle.std.specs.Int.{int_max, w128}
use Rattle.std.proofs.lemmas.Int.{ints, clamps, fits_signed_from_abs, to_z-of_z}
use Rattle.inter_credit.specs.declared.requirement.TheConstants.{MAX_PART}

pub size-add : (a b : ℤ) → nat_abs (a +ℤ b) ≤ nat_abs a + nat_abs b
size-add a b = omega (arith, ints)

pub size-sub : (a b : ℤ) → nat_abs (a -ℤ b) ≤ nat_abs a + nat_abs b
size-sub a b = omega (arith, ints)

pub size-int_max : (a b : ℤ) → nat_abs (int_max a b) ≤ nat_abs a + nat_abs b
size-int_max a b = omega (arith, ints, clamps)

-- a number of size at most n keeps its value
pub same : (z : ℤ) (n : ℕ) → nat_abs z ≤ n → n < 2 ^ 127 → to_z w128 (of_z w128 z) ≡ z
same z n le lt = let below : nat_abs z < 2 ^ 127 = omega (arith, le, lt) in to_z-of_z w128 z (fits_signed_from_abs w128 z below)

-- the larger of two numbers keeps its value
pub same_larger : (x y m : ℤ) (n : ℕ) → nat_abs x + nat_abs y ≤ n → n < 2 ^ 127
    → m ≡ int_max (to_z w128 (of_z w128 x)) (to_z w128 (of_z w128 y))
    → to_z w128 (of_z w128 m) ≡ int_max x y
same_larger x y m n le lt e =
    let below : nat_abs (int_max x y) ≤ n = omega (arith, le, size-int_max x y) in
    rw (e, same x n (omega (arith, le)) lt, same y n (omega (arith, le)) lt) (same (int_max x y) n below lt)

-- the size of a sum of three numbers less a fourth is at most the sum of their sizes
pub size-parts : (a b d e : ℤ) → nat_abs (((a +ℤ b) +ℤ d) -ℤ e) ≤ nat_abs a + nat_abs b + nat_abs d + nat_abs e
size-parts a b d e = omega (arith, size-add a b, size-add (a +ℤ b) d, size-sub ((a +ℤ b) +ℤ d) e)

-- the code's sum of three numbers less a fourth has the exact value
pub record AreSums (a b d e difference : ℤ) : Type 0 where
  pub value : to_z w128 (of_z w128 difference) ≡ ((a +ℤ b) +ℤ d) -ℤ e
  pub fits : FitsSigned w128 difference
  pub bound : nat_abs (to_z w128 (of_z w128 difference)) ≤ nat_abs a + nat_abs b + nat_abs d + nat_abs e

pub are_sums : (x y z u a b d e : ℤ) → x ≡ a → y ≡ b → z ≡ d → u ≡ e
    → nat_abs a ≤ MAX_PART → nat_abs b ≤ MAX_PART → nat_abs d ≤ MAX_PART → nat_abs e ≤ MAX_PART
    → AreSums a b d e
    (to_z w128 (of_z w128 (to_z w128 (of_z w128 (to_z w128 (of_z w128 x) +ℤ to_z w128 (of_z w128 y))) +ℤ to_z w128 (of_z w128 z)))
    -ℤ to_z w128 (of_z w128 u))
are_sums x y z u a b d e p q r s fa fb fd fe =
    let two : nat_abs (a +ℤ b) ≤ 2 * MAX_PART = omega (arith, size-add a b) in
    let three : nat_abs ((a +ℤ b) +ℤ d) ≤ 3 * MAX_PART = omega (arith, two, size-add (a +ℤ b) d) in
    let four : nat_abs (((a +ℤ b) +ℤ d) -ℤ e) ≤ 4 * MAX_PART = omega (arith, size-parts a b d e) in
    let below : nat_abs (((a +ℤ b) +ℤ d) -ℤ e) < 2 ^ 127 = omega (arith, four) in
    rw (
      p,
      q,
      r,
      s,
      same a MAX_PART fa (lit< tt),
      same b MAX_PART fb (lit< tt),
      same d MAX_PART fd (lit< tt),
      same e MAX_PART fe (lit< tt),
      same (a +ℤ b) (2 * MAX_PART) two (lit< tt),
      same ((a +ℤ b) +ℤ d) (3 * MAX_PART) three (lit< tt),
    )
    (record {
      value = same (((a +ℤ b) +ℤ d) -ℤ e) (4 * MAX_PART) four (lit< tt);
      fits = fits_signed_from_abs w128 (((a +ℤ b) +ℤ d) -ℤ e) below;
      bound = rw (same (((a +ℤ b) +ℤ d) -ℤ e) (4 * MAX_PART) four (lit< tt)) (size-parts a b d e);
    })
