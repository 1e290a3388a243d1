-- How sides and remaining deltas fall when they are used.
use Rattle.std.proofs.Common.{◌≡◌, ℕ, ◌+◌, ◌-◌, ◌≤◌, min, Bool, true, false, cond, List, [], ◌∷◌, refl, arith, map, sum_by, fold}
use Rattle.std.specs.Prelude.{ℤ}
use Rattle.std.proofs.lemmas.List.Sums.{sum_by-cons}
use Rattle.span_tables.specs.Sides.{part_on, less_used, spreads_formed}
use Rattle.span_tables.specs.declared.sides.Direction.TheVariants.{ALong, AShort}
use Rattle.span_tables.specs.declared.sides.MarketSide.{MarketSide}
use Rattle.span_tables.specs.declared.records.Intra.{Intra}
use Rattle.span_tables.specs.declared.legs.MonthLeg.{MonthLeg}
use Rattle.spread_stage.specs.Months.{MonthsRise, Shrinks}
use Rattle.spread_stage.specs.Spreads.{is_in_tier, tier_side, side_before, used_of_month, rests_after_leg, tier_rooms, TierRests}
use Rattle.spread_stage.specs.Spreads.{spread_one_way, spread_both_ways, after_spreads, unspread}
use Rattle.spread_stage.specs.declared.months.MonthUnits.{MonthUnits}
use Rattle.spread_stage.proofs.SizeLemmas.{shrinks_none}
use Rattle.spread_stage.proofs.SpreadLemmas.{legs_shrink}
use Rattle.spread_stage.proofs.UseLaws.{side-cons, weight, used_all, used_total}
use Rattle.span_tables.proofs.SideLemmas.{used_part}

weight_if : (on : MarketSide) (b : Bool) (z : ℤ) (x : ℕ)
    → cond b (part_on on (less_used on z (cond b (min (part_on on z) x) 0))) 0 + cond b (min (part_on on z) x) 0
    ≡ cond b (part_on on z) 0
weight_if on true z x =
    let within : min (part_on on z) x ≤ part_on on z = omega arith in used_part on z (min (part_on on z) x) within
weight_if on false z x = refl

module _ (on : MarketSide) (leg : MonthLeg) (needed : ℕ) (rests : List MonthUnits) where
  abbrev used : MonthUnits → ℕ
  used m = used_of_month rests on leg needed m

  abbrev after : MonthUnits → MonthUnits
  after m = record { month = m.month; units = less_used on m.units (used m) }

  side_of_all : (ms : List MonthUnits) → tier_side (map after ms) on leg + sum_by used ms ≡ tier_side ms on leg
  unfolding weight
  side_of_all [] = refl
  side_of_all (m ∷ ms) =
      let a = side-cons on leg (after m) (map after ms) in
      let b = side-cons on leg m ms in
      let d = sum_by-cons used m ms in
      let e = weight_if on (is_in_tier leg m) m.units (needed - side_before rests on leg m.month) in
      let h = side_of_all ms in
      omega (arith, a, b, d, e, h)

-- a leg's side falls by what the leg needs, and to 0 at the least
pub side_left : (on : MarketSide) (leg : MonthLeg) (rests : List MonthUnits) (needed : ℕ) → MonthsRise rests
    → tier_side (rests_after_leg on needed rests leg) on leg ≡ tier_side rests on leg - needed
side_left on leg rests needed rise =
    let all = side_of_all on leg needed rests rests in
    let whole = used_all on leg rests needed rise in
    omega (arith, all, whole)

-- a leg's side falls by exactly what the leg needs
pub side_falls : (on : MarketSide) (leg : MonthLeg) (rests : List MonthUnits) (needed : ℕ) → MonthsRise rests
    → needed ≤ tier_side rests on leg
    → tier_side (rests_after_leg on needed rests leg) on leg + needed ≡ tier_side rests on leg
side_falls on leg rests needed rise enough =
    let all = side_of_all on leg needed rests rests in
    let whole = used_total on leg rests needed rise enough in
    omega (arith, all, whole)

both_shrink : (deltas : List MonthUnits) (t : TierRests) (s : Intra) → Shrinks deltas t.rests
    → Shrinks deltas (spread_both_ways t s).rests
unfolding spread_both_ways
both_shrink deltas t s h =
    let once = spread_one_way s ALong t in
    legs_shrink AShort (spreads_formed (tier_rooms AShort s.legs once.rests)) deltas s.legs once.rests
    (legs_shrink ALong (spreads_formed (tier_rooms ALong s.legs t.rests)) deltas s.legs t.rests h)

all_shrink : (deltas : List MonthUnits) (spreads : List Intra) (t : TierRests) → Shrinks deltas t.rests
    → Shrinks deltas (fold spread_both_ways t spreads).rests
all_shrink deltas [] t h = h
all_shrink deltas (s ∷ spreads) t h = all_shrink deltas spreads (spread_both_ways t s) (both_shrink deltas t s h)

-- after all spreads, each remaining delta is a part of its month delta
pub spreads_shrink : (spreads : List Intra) (months : List MonthUnits) → Shrinks months (after_spreads spreads months).rests
unfolding after_spreads
spreads_shrink spreads months = all_shrink months spreads (unspread months) (shrinks_none months)
