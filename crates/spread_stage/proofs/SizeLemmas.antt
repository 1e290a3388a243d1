-- Sizes of sides and remaining deltas.
use Rattle.std.proofs.Common.{◌≡◌, ℕ, ◌+◌, ◌-◌, ◌<◌, ◌≤◌, Bool, true, false, cond, List, [], ◌∷◌, refl, sym}
use Rattle.std.proofs.Common.{ap, subst, arith, filter, map, nat_abs, suc, sum_by}
use Rattle.std.specs.Prelude.{ℤ, pos, negsuc, ◌+ℤ◌, ◌-ℤ◌, ◌==◌, nat_lt, Option, Some, find, option_map, unwrap_or}
use Rattle.std.specs.List.{AllByRecursion}
use Rattle.std.proofs.lemmas.Int.{ints}
use Rattle.std.proofs.lemmas.Bool.Decides.{nat_tests}
use Rattle.std.proofs.lemmas.List.Sums.{sum_by-cons}
use Rattle.span_tables.specs.Sides.{part_on, less_used}
use Rattle.span_tables.specs.declared.sides.MarketSide.{MarketSide}
use Rattle.span_tables.specs.declared.sides.MarketSide.TheVariants.{Long, Short}
use Rattle.spread_stage.specs.Deltas.{units_at}
use Rattle.spread_stage.specs.Spreads.{is_in_tier, tier_side}
use Rattle.spread_stage.specs.Months.{MonthsRise, total_size, IsPartOf, Shrinks}
use Rattle.span_tables.specs.declared.legs.MonthLeg.{MonthLeg}
use Rattle.spread_stage.specs.declared.months.MonthUnits.{MonthUnits}
use Rattle.span_tables.proofs.SideLemmas.{used_size}

-- the part on a side is at most the size
pub part_on-le : (on : MarketSide) (z : ℤ) → part_on on z ≤ nat_abs z
part_on-le Long (pos n) = omega arith
part_on-le Long (negsuc n) = omega arith
part_on-le Short (pos n) = omega arith
part_on-le Short (negsuc n) = omega arith

-- a side is at most the total size of the remaining deltas
size_if : (on : MarketSide) (b : Bool) (m : MonthUnits) (xs : List MonthUnits)
    → sum_by (λ (x : MonthUnits). part_on on x.units) (cond b (m ∷ xs) xs)
    ≤ part_on on m.units + sum_by (λ (x : MonthUnits). part_on on x.units) xs
size_if on true m xs = let a = sum_by-cons (λ (x : MonthUnits). part_on on x.units) m xs in omega (arith, a)
size_if on false m xs = omega arith

pub tier_side-le : (on : MarketSide) (leg : MonthLeg) (rests : List MonthUnits) → tier_side rests on leg ≤ total_size rests
tier_side-le on leg [] = omega arith
tier_side-le on leg (m ∷ ms) =
    let a = size_if on (is_in_tier leg m) m (filter (is_in_tier leg) ms) in
    let b = sum_by-cons (λ (x : MonthUnits). nat_abs x.units) m ms in
    let d = part_on-le on m.units in
    let e = tier_side-le on leg ms in
    omega (arith, a, b, d, e)

-- ---- parts of deltas

pub IsPartOf-all : (z : ℤ) → IsPartOf z z
IsPartOf-all (pos n) = omega arith
IsPartOf-all (negsuc n) = omega arith

zero_less : (n j : ℕ) → n ≡ 0 → j ≤ n → j ≡ 0
zero_less n j e h = omega arith

pub IsPartOf-part : (a b d : ℤ) → IsPartOf a b → IsPartOf b d → IsPartOf a d
IsPartOf-part (pos n) (pos k) (pos j) h g = omega (arith, h, g)
IsPartOf-part (pos n) (pos k) (negsuc j) h g = absurd g
IsPartOf-part (pos n) (negsuc k) d h g = absurd h
IsPartOf-part (negsuc n) (pos k) (pos j) h g = zero_less k j h g
IsPartOf-part (negsuc n) (pos k) (negsuc j) h g = absurd g
IsPartOf-part (negsuc n) (negsuc k) (pos j) h g = g
IsPartOf-part (negsuc n) (negsuc k) (negsuc j) h g = omega (arith, h, g)

left_of_short : (b : Bool) (n u : ℕ) → nat_lt n u ≡ b → u ≤ suc n → IsPartOf (negsuc n) (less_used Short (negsuc n) u)
left_of_short true n u e h =
    let lt : n < u = grind (arith, nat_tests, e) in
    let z : negsuc n +ℤ pos u ≡ pos 0 = omega (arith, ints, lt, h) in
    subst (IsPartOf (negsuc n)) (sym z) refl
left_of_short false n u e h =
    let le : u ≤ n = grind (arith, nat_tests, e) in
    let z : negsuc n +ℤ pos u ≡ negsuc (n - u) = omega (arith, ints, le) in
    let small : n - u ≤ n = omega arith in
    subst (IsPartOf (negsuc n)) (sym z) small

-- what a use leaves of a remaining delta is a part of it
pub IsPartOf-less_used : (on : MarketSide) (z : ℤ) (u : ℕ) → u ≤ part_on on z → IsPartOf z (less_used on z u)
IsPartOf-less_used Long (pos n) u h =
    let z : pos n -ℤ pos u ≡ pos (n - u) = omega (arith, ints, h) in
    let small : n - u ≤ n = omega arith in
    subst (IsPartOf (pos n)) (sym z) small
IsPartOf-less_used Long (negsuc n) u h =
    let z : negsuc n -ℤ pos u ≡ negsuc n = omega (arith, ints, h) in
    let small : n ≤ n = omega arith in
    subst (IsPartOf (negsuc n)) (sym z) small
IsPartOf-less_used Short (pos n) u h = omega (arith, h)
IsPartOf-less_used Short (negsuc n) u h = left_of_short (nat_lt n u) n u refl h

-- a part is at most as large as the whole
pub IsPartOf-size : (a b : ℤ) → IsPartOf a b → nat_abs b ≤ nat_abs a
IsPartOf-size (pos n) (pos k) h = omega (arith, h)
IsPartOf-size (pos n) (negsuc k) h = absurd h
IsPartOf-size (negsuc n) (pos k) h = omega (arith, h)
IsPartOf-size (negsuc n) (negsuc k) h = omega (arith, h)

-- ---- remaining deltas after a use

module _ (on : MarketSide) (used : MonthUnits → ℕ) (within : (m : MonthUnits) → used m ≤ part_on on m.units) where
  abbrev after : MonthUnits → MonthUnits
  after m = record { month = m.month; units = less_used on m.units (used m) }

  above_after : (p : ℕ) (ms : List MonthUnits) → AllByRecursion (λ n. p < n.month) ms
      → AllByRecursion (λ n. p < n.month) (map after ms)
  above_after p [] h = tt
  above_after p (m ∷ ms) h = (h.0, above_after p ms h.1)

  pub rise_after : (ms : List MonthUnits) → MonthsRise ms → MonthsRise (map after ms)
  rise_after [] h = tt
  rise_after (m ∷ ms) h = (above_after m.month ms h.0, rise_after ms h.1)

  pub size_after : (ms : List MonthUnits) → total_size (map after ms) + sum_by used ms ≡ total_size ms
  size_after [] = refl
  size_after (m ∷ ms) =
      let a = sum_by-cons (λ (x : MonthUnits). nat_abs x.units) (after m) (map after ms) in
      let b = sum_by-cons used m ms in
      let d = sum_by-cons (λ (x : MonthUnits). nat_abs x.units) m ms in
      let e = used_size on m.units (used m) (within m) in
      let h = size_after ms in
      omega (arith, a, b, d, e, h)

  pub shrinks_after : (deltas ms : List MonthUnits) → Shrinks deltas ms → Shrinks deltas (map after ms)
  shrinks_after [] [] h = tt
  shrinks_after [] (m ∷ ms) h = absurd h
  shrinks_after (d ∷ deltas) [] h = absurd h
  shrinks_after (d ∷ deltas) (m ∷ ms) h = (
    h.0,
    (
      IsPartOf-part d.units m.units (less_used on m.units (used m)) (h.1).0 (IsPartOf-less_used on m.units (used m) (within m)),
      shrinks_after deltas ms (h.1).1,
    ),
  )

-- before any use, each remaining delta is the month delta
pub shrinks_none : (deltas : List MonthUnits) → Shrinks deltas deltas
shrinks_none [] = tt
shrinks_none (d ∷ deltas) = (refl, (IsPartOf-all d.units, shrinks_none deltas))

-- ---- the units of a month

units_if : (b : Bool) (m : MonthUnits) (ms : List MonthUnits) (r : Option MonthUnits)
    → nat_abs (unwrap_or (option_map (λ (x : MonthUnits). x.units) r) (pos 0)) ≤ total_size ms
    → nat_abs (unwrap_or (option_map (λ (x : MonthUnits). x.units) (cond b (Some m) r)) (pos 0)) ≤ total_size (m ∷ ms)
units_if true m ms r h = let a = sum_by-cons (λ (x : MonthUnits). nat_abs x.units) m ms in omega (arith, a)
units_if false m ms r h = let a = sum_by-cons (λ (x : MonthUnits). nat_abs x.units) m ms in omega (arith, a, h)

-- the size of a month's units is at most the total size
pub units_at_le : (ms : List MonthUnits) (p : ℕ) → nat_abs (units_at ms p) ≤ total_size ms
units_at_le [] p = omega arith
units_at_le (m ∷ ms) p = units_if (m.month == p) m ms (find (λ x. x.month == p) ms) (units_at_le ms p)

left_if : (b : Bool) (m r : MonthUnits) (f g : Option MonthUnits) → IsPartOf m.units r.units
    → nat_abs (unwrap_or (option_map (λ (x : MonthUnits). x.units) g) (pos 0))
    ≤ nat_abs (unwrap_or (option_map (λ (x : MonthUnits). x.units) f) (pos 0))
    → nat_abs (unwrap_or (option_map (λ (x : MonthUnits). x.units) (cond b (Some r) g)) (pos 0))
    ≤ nat_abs (unwrap_or (option_map (λ (x : MonthUnits). x.units) (cond b (Some m) f)) (pos 0))
left_if true m r f g part h = IsPartOf-size m.units r.units part
left_if false m r f g part h = h

-- a month's remaining delta is at most as large as its delta
pub left_le : (deltas rests : List MonthUnits) (p : ℕ) → Shrinks deltas rests
    → nat_abs (units_at rests p) ≤ nat_abs (units_at deltas p)
left_le [] [] p h = omega arith
left_le [] (r ∷ rests) p h = absurd h
left_le (m ∷ deltas) [] p h = absurd h
left_le (m ∷ deltas) (r ∷ rests) p h =
    let test : (r.month == p) ≡ (m.month == p) = ap (λ n. n == p) h.0 in
    let g = find (λ (x : MonthUnits). x.month == p) rests in
    let first = left_if (m.month == p) m r (find (λ x. x.month == p) deltas) g (h.1).0 (left_le deltas rests p (h.1).1) in
    let same : nat_abs (units_at (r ∷ rests) p)
    ≡ nat_abs (unwrap_or (option_map (λ (x : MonthUnits). x.units) (cond (m.month == p) (Some r) g)) (pos 0)) =
    ap (λ b. nat_abs (unwrap_or (option_map (λ (x : MonthUnits). x.units) (cond b (Some r) g)) (pos 0))) test in
    omega (arith, first, same)
