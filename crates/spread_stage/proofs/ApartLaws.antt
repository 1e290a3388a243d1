-- What each leg of a spread uses if no two legs use the same remaining delta.
use Rattle.std.proofs.Common.{◌≡◌, ℕ, suc, ◌+◌, ◌-◌, ◌*◌, ◌<◌, ◌≤◌, Bool, true, false, cond, not, List, [], ◌∷◌, refl, ap, ◌∙◌, arith, map}
use Rattle.std.specs.Prelude.{ℤ, pos, negsuc, ◌+ℤ◌, ◌-ℤ◌, ◌||◌, nat_lt}
use Rattle.std.specs.List.{AllByRecursion}
use Rattle.std.proofs.lemmas.Bool.Decides.{nat_tests}
use Rattle.std.proofs.lemmas.Int.{ints}
use Rattle.span_money.specs.Numbers.{positive_part, negative_part}
use Rattle.span_tables.specs.Rules.{same_side}
use Rattle.span_tables.specs.Sides.{market_side, part_on, less_used}
use Rattle.span_tables.specs.declared.legs.MonthLeg.{MonthLeg}
use Rattle.span_tables.specs.declared.sides.Side.{Side}
use Rattle.span_tables.specs.declared.sides.Side.TheVariants as side
use Rattle.span_tables.specs.declared.sides.Direction.{Direction}
use Rattle.span_tables.specs.declared.sides.Direction.TheVariants.{ALong, AShort}
use Rattle.span_tables.specs.declared.sides.MarketSide.{MarketSide}
use Rattle.spread_stage.specs.Laws.{draw_apart, DrawApart}
use Rattle.spread_stage.specs.Months.{MonthsRise}
use Rattle.spread_stage.specs.Spreads.{is_in_tier, tier_side, used_of_month, rests_after, rests_after_leg}
use Rattle.spread_stage.specs.declared.months.MonthUnits.{MonthUnits}
use Rattle.spread_stage.proofs.FallLemmas.{side_falls}
use Rattle.spread_stage.proofs.SpreadLemmas.{leg_rise, none_used, within}
use Rattle.spread_stage.proofs.UseLaws.{side-cons, weight}

-- ---- using one side of the market leaves the other side unchanged

pub short_kept : (z : ℤ) (u : ℕ) → u ≤ positive_part z → negative_part (z -ℤ pos u) ≡ negative_part z
short_kept (pos n) u h = let e : pos n -ℤ pos u ≡ pos (n - u) = omega (arith, ints, h) in ap negative_part e
short_kept (negsuc n) u h = let e : negsuc n -ℤ pos u ≡ negsuc n = omega (arith, ints, h) in ap negative_part e

long_if : (b : Bool) (n u : ℕ) → nat_lt n u ≡ b → u ≤ suc n → positive_part (negsuc n +ℤ pos u) ≡ 0
long_if true n u e h =
    let lt : n < u = grind (arith, nat_tests, e) in
    let z : negsuc n +ℤ pos u ≡ pos 0 = omega (arith, ints, lt, h) in ap positive_part z
long_if false n u e h =
    let le : u ≤ n = grind (arith, nat_tests, e) in
    let z : negsuc n +ℤ pos u ≡ negsuc (n - u) = omega (arith, ints, le) in ap positive_part z

pub long_kept : (z : ℤ) (u : ℕ) → u ≤ negative_part z → positive_part (z +ℤ pos u) ≡ positive_part z
long_kept (pos n) u h = let e : pos n +ℤ pos u ≡ pos n = omega (arith, ints, h) in ap positive_part e
long_kept (negsuc n) u h = long_if (nat_lt n u) n u refl h

other_part : (d : Direction) (s t : Side) → not (same_side s t) ≡ true → (z : ℤ) (u : ℕ) → u ≤ part_on (market_side d t) z
    → part_on (market_side d s) (less_used (market_side d t) z u) ≡ part_on (market_side d s) z
other_part d side.A side.A e z u h = cc
other_part ALong side.A side.B e z u h = long_kept z u h
other_part AShort side.A side.B e z u h = short_kept z u h
other_part ALong side.B side.A e z u h = short_kept z u h
other_part AShort side.B side.A e z u h = long_kept z u h
other_part d side.B side.B e z u h = cc

-- ---- a leg that draws apart leaves another leg's side unchanged

pub other_side : (on : MarketSide) (leg : MonthLeg) (f : MonthUnits → MonthUnits)
    → ((m : MonthUnits) → weight on leg (f m) ≡ weight on leg m) → (ms : List MonthUnits)
    → tier_side (map f ms) on leg ≡ tier_side ms on leg
other_side on leg f same [] = refl
other_side on leg f same (m ∷ ms) =
    let a = side-cons on leg (f m) (map f ms) in
    let b = side-cons on leg m ms in
    let here = same m in
    let rest = other_side on leg f same ms in
    omega (arith, a, b, here, rest)

module _ (d : Direction) (leg other : MonthLeg) (needed : ℕ) (rests : List MonthUnits) where
  abbrev used : MonthUnits → ℕ
  used m = used_of_month rests (market_side d other.side) other needed m

  by_side : (m : MonthUnits) → not (same_side leg.side other.side) ≡ true
      → part_on (market_side d leg.side) (less_used (market_side d other.side) m.units (used m))
      ≡ part_on (market_side d leg.side) m.units
  by_side m e = other_part d leg.side other.side e m.units (used m) (within rests (market_side d other.side) other needed m)

  -- a month outside the other leg's tier keeps its part
  by_tier : (m : MonthUnits) → is_in_tier other m ≡ false
      → part_on (market_side d leg.side) (less_used (market_side d other.side) m.units (used m))
      ≡ part_on (market_side d leg.side) m.units
  by_tier m e =
      let none : used m ≡ 0 = rw e refl in
      ap (part_on (market_side d leg.side)) (none_used (market_side d other.side) m.units (used m) none)

  same_if : (m : MonthUnits) (b : Bool) → is_in_tier leg m ≡ b
      → (b ≡ true → part_on (market_side d leg.side) (less_used (market_side d other.side) m.units (used m))
      ≡ part_on (market_side d leg.side) m.units)
      → cond b (part_on (market_side d leg.side) (less_used (market_side d other.side) m.units (used m))) 0
      ≡ cond b (part_on (market_side d leg.side) m.units) 0
  same_if m true e same = same refl
  same_if m false e same = refl

  parts : (m : MonthUnits) (a : Bool) → not (same_side leg.side other.side) ≡ a
      → (a || (nat_lt leg.last other.first || nat_lt other.last leg.first)) ≡ true → is_in_tier leg m ≡ true
      → part_on (market_side d leg.side) (less_used (market_side d other.side) m.units (used m))
      ≡ part_on (market_side d leg.side) m.units
  parts m true e apart inside = by_side m e
  parts m false e apart inside =
      let out : is_in_tier other m ≡ false = grind (arith, nat_tests, apart, inside) in
      by_tier m out

  pub side_kept : draw_apart leg other ≡ true
      → tier_side (rests_after_leg (market_side d other.side) needed rests other) (market_side d leg.side) leg
      ≡ tier_side rests (market_side d leg.side) leg
  unfolding weight
  side_kept apart =
      other_side (market_side d leg.side) leg
      (λ m. record { month = m.month; units = less_used (market_side d other.side) m.units (used m) })
      (λ m. same_if m (is_in_tier leg m) refl (λ inside. parts m (not (same_side leg.side other.side)) refl apart inside)) rests

-- ---- all legs

swap_sides : (s t : Side) → same_side s t ≡ same_side t s
swap_sides side.A side.A = refl
swap_sides side.A side.B = refl
swap_sides side.B side.A = refl
swap_sides side.B side.B = refl

swap_or : (a b c : Bool) → (a || (b || c)) ≡ true → (a || (c || b)) ≡ true
swap_or true b c e = refl
swap_or false true true e = refl
swap_or false true false e = refl
swap_or false false true e = refl
swap_or false false false e = e

swap_apart : (a b : MonthLeg) → draw_apart a b ≡ true → draw_apart b a ≡ true
swap_apart a b e = rw (swap_sides b.side a.side) (swap_or (not (same_side a.side b.side)) (nat_lt a.last b.first) (nat_lt b.last a.first) e)

module _ (d : Direction) (n : ℕ) where
  abbrev side_of : MonthLeg → List MonthUnits → ℕ
  side_of leg rests = tier_side rests (market_side d leg.side) leg

  abbrev after : MonthLeg → List MonthUnits → List MonthUnits
  after leg rests = rests_after_leg (market_side d leg.side) (n * leg.ratio) rests leg

  kept_by_all : (leg : MonthLeg) (legs : List MonthLeg) (rests : List MonthUnits)
      → AllByRecursion (λ other. draw_apart leg other ≡ true) legs
      → side_of leg (rests_after d n legs rests) ≡ side_of leg rests
  kept_by_all leg [] rests apart = refl
  kept_by_all leg (other ∷ legs) rests apart =
      kept_by_all leg legs (after other rests) apart.1 ∙ side_kept d leg other (n * other.ratio) rests apart.0

  still_enough : (leg : MonthLeg) (legs : List MonthLeg) (rests : List MonthUnits)
      → AllByRecursion (λ other. draw_apart leg other ≡ true) legs
      → AllByRecursion (λ other. n * other.ratio ≤ side_of other rests) legs
      → AllByRecursion (λ other. n * other.ratio ≤ side_of other (after leg rests)) legs
  still_enough leg [] rests apart enough = enough
  still_enough leg (other ∷ legs) rests apart enough =
      let same = side_kept d other leg (n * leg.ratio) rests (swap_apart leg other apart.0) in
      (omega (arith, same, enough.0), still_enough leg legs rests apart.1 enough.1)

  from_first : (leg : MonthLeg) (legs : List MonthLeg) (end rests : List MonthUnits)
      → AllByRecursion (λ other. draw_apart leg other ≡ true) legs
      → AllByRecursion (λ other. side_of other end + n * other.ratio ≡ side_of other (after leg rests)) legs
      → AllByRecursion (λ other. side_of other end + n * other.ratio ≡ side_of other rests) legs
  from_first leg [] end rests apart fall = fall
  from_first leg (other ∷ legs) end rests apart fall =
      (fall.0 ∙ side_kept d other leg (n * leg.ratio) rests (swap_apart leg other apart.0), from_first leg legs end rests apart.1 fall.1)

-- each leg's side falls by exactly what the leg needs
pub legs_fall : (d : Direction) (n : ℕ) (legs : List MonthLeg) (rests : List MonthUnits) → MonthsRise rests → DrawApart legs
    → AllByRecursion (λ leg. n * leg.ratio ≤ tier_side rests (market_side d leg.side) leg) legs
    → AllByRecursion (λ leg. tier_side (rests_after d n legs rests) (market_side d leg.side) leg + n * leg.ratio
    ≡ tier_side rests (market_side d leg.side) leg) legs
legs_fall d n [] rests rise apart enough = enough
legs_fall d n (leg ∷ legs) rests rise apart enough =
    let next = after d n leg rests in
    let first = side_falls (market_side d leg.side) leg rests (n * leg.ratio) rise enough.0 in
    let kept = kept_by_all d n leg legs next apart.0 in
    let others = legs_fall d n legs next (leg_rise (market_side d leg.side) (n * leg.ratio) rests leg rise) apart.1
    (still_enough d n leg legs rests apart.0 enough.1) in
    (ap (λ k. k + n * leg.ratio) kept ∙ first, from_first d n leg legs (rests_after d n (leg ∷ legs) rests) rests apart.0 others)
