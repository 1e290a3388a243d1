-- Lemmas about the part of a delta that is on a side of the market.
use Rattle.std.proofs.Common.{◌≡◌, ℕ, ℤ, zero, suc, ◌+◌, ◌-◌, ◌/◌, ◌<◌, ◌≤◌, pos, negsuc, nat_abs, refl, arith}
use Rattle.std.specs.Prelude.{neg_ℤ}
use Rattle.std.proofs.Math.Nat.{zero-div}
use Rattle.std.proofs.lemmas.Int.{ints}
use Rattle.span_money.specs.Numbers.{negative_part}
use Rattle.span_tables.specs.Sides.{less_used, part_on}
use Rattle.span_tables.specs.declared.sides.MarketSide.{MarketSide}
use Rattle.span_tables.specs.declared.sides.MarketSide.TheVariants.{Long, Short}

part_of_neg : (n : ℕ) → negative_part (neg_ℤ (pos n)) ≡ n
part_of_neg zero = refl
part_of_neg (suc n) = refl

-- the used units and the remaining units of a market side sum to the side
pub used_part : (on : MarketSide) (z : ℤ) (used : ℕ) → used ≤ part_on on z → part_on on (less_used on z used) + used ≡ part_on on z
used_part Long (pos n) used le = let e : less_used Long (pos n) used ≡ pos (n - used) = omega (arith, ints, le) in rw e (omega arith)
used_part Long (negsuc n) used le = let e : less_used Long (negsuc n) used ≡ negsuc n = omega (arith, ints, le) in rw e (omega arith)
used_part Short (pos n) used le = let none : used ≤ 0 = le in omega arith
used_part Short (negsuc n) used le =
    let e : less_used Short (negsuc n) used ≡ neg_ℤ (pos (suc n - used)) = omega (arith, ints, le) in
    rw e (rw (part_of_neg (suc n - used)) (omega arith))

-- the used units and the new remaining delta sum to the old one in size
pub used_size : (on : MarketSide) (z : ℤ) (used : ℕ) → used ≤ part_on on z → nat_abs (less_used on z used) + used ≡ nat_abs z
used_size Long (pos n) used le = omega (arith, ints, le)
used_size Long (negsuc n) used le = omega (arith, ints, le)
used_size Short (pos n) used le = omega (arith, ints, le)
used_size Short (negsuc n) used le = omega (arith, ints, le)

-- a side with room for a spread is above 0
pub side_above : (side ratio : ℕ) → 0 < side / ratio → 0 < side
side_above zero ratio above = let none = zero-div ratio in absurd (omega (arith, none, above))
side_above (suc n) ratio above = omega arith
