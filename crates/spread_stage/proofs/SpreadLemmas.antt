-- What the legs of a spread leave of the remaining deltas.
use Rattle.std.proofs.Common.{◌≡◌, ℕ, zero, suc, ◌+◌, ◌*◌, ◌-◌, ◌<◌, ◌≤◌, min, Bool, true, false, cond, List}
use Rattle.std.proofs.Common.{[], ◌∷◌, refl, ap, ◌∙◌, arith, length, get_or, map, sum_by}
use Rattle.std.specs.Prelude.{ℤ, All}
use Rattle.std.proofs.Math.Nat.{add-mul, mul-le-mul}
use Rattle.std.proofs.lemmas.Int.{ints}
use Rattle.span_tables.specs.Sides.{market_side, part_on, less_used, spreads_formed}
use Rattle.span_tables.specs.declared.sides.Direction.{Direction}
use Rattle.span_tables.specs.declared.sides.MarketSide.{MarketSide}
use Rattle.span_tables.specs.declared.sides.MarketSide.TheVariants.{Long, Short}
use Rattle.span_tables.specs.Laws.{FitsRooms}
use Rattle.span_tables.proofs.SpreadLaws.{formed_fit}
use Rattle.span_tables.specs.declared.records.Intra.{Intra}
use Rattle.span_tables.specs.declared.legs.MonthLeg.{MonthLeg}
use Rattle.spread_stage.specs.Months.{MonthsRise, total_size, Shrinks}
use Rattle.spread_stage.specs.Spreads.{is_in_tier, tier_side, side_before, used_of_month, rests_after_leg, rests_after, tier_rooms}
use Rattle.spread_stage.specs.Spreads.{TierRests, formed_both, spread_both_ways}
use Rattle.spread_stage.specs.declared.months.MonthUnits.{MonthUnits}
use Rattle.span_tables.specs.declared.limits.TheConstants.{MAX_UNITS}
use Rattle.spread_stage.proofs.SizeLemmas.{rise_after, size_after, shrinks_after, tier_side-le}
use Rattle.spread_stage.proofs.UseLaws.{used_total}

within_if : (b : Bool) (part x : ℕ) → cond b (min part x) 0 ≤ part
within_if true part x = omega arith
within_if false part x = omega arith

-- a leg uses no more of a month than its part
pub within : (rests : List MonthUnits) (on : MarketSide) (leg : MonthLeg) (needed : ℕ) (m : MonthUnits)
    → used_of_month rests on leg needed m ≤ part_on on m.units
within rests on leg needed m = within_if (is_in_tier leg m) (part_on on m.units) (needed - side_before rests on leg m.month)

-- ---- after one leg

module _ (on : MarketSide) (needed : ℕ) (rests : List MonthUnits) (leg : MonthLeg) where
  pub leg_rise : MonthsRise rests → MonthsRise (rests_after_leg on needed rests leg)
  leg_rise rise = rise_after on (used_of_month rests on leg needed) (within rests on leg needed) rests rise

  leg_size : total_size (rests_after_leg on needed rests leg) + sum_by (used_of_month rests on leg needed) rests ≡ total_size rests
  leg_size = size_after on (used_of_month rests on leg needed) (within rests on leg needed) rests

  pub leg_less : total_size (rests_after_leg on needed rests leg) ≤ total_size rests
  leg_less = let e = leg_size in omega (arith, e)

  pub leg_shrinks : (deltas : List MonthUnits) → Shrinks deltas rests → Shrinks deltas (rests_after_leg on needed rests leg)
  leg_shrinks deltas h = shrinks_after on (used_of_month rests on leg needed) (within rests on leg needed) deltas rests h

  -- the total size falls by exactly what the leg needs
  leg_falls : MonthsRise rests → needed ≤ tier_side rests on leg
      → total_size (rests_after_leg on needed rests leg) + needed ≡ total_size rests
  leg_falls rise enough = let e = leg_size in let all = used_total on leg rests needed rise enough in omega (arith, e, all)

pub none_used : (on : MarketSide) (z : ℤ) (u : ℕ) → u ≡ 0 → less_used on z u ≡ z
none_used Long z u e = omega (arith, ints, e)
none_used Short z u e = omega (arith, ints, e)

unused : (on : MarketSide) (used : MonthUnits → ℕ) → ((m : MonthUnits) → used m ≡ 0) → (ms : List MonthUnits)
    → map (λ m. record { month = m.month; units = less_used on m.units (used m) }) ms ≡ ms
unused on used none [] = refl
unused on used none (m ∷ ms) =
    ap (λ (z : ℤ). record { month = m.month; units = z }
    ∷ map (λ x. record { month = x.month; units = less_used on x.units (used x) }) ms) (none_used on m.units (used m) (none m))
    ∙ ap (λ (xs : List MonthUnits). m ∷ xs) (unused on used none ms)

zero_if : (b : Bool) (part needed side : ℕ) → needed ≡ 0 → cond b (min part (needed - side)) 0 ≡ 0
zero_if true part needed side e = omega (arith, e)
zero_if false part needed side e = refl

leg_none : (on : MarketSide) (needed : ℕ) (rests : List MonthUnits) (leg : MonthLeg) → needed ≡ 0
    → rests_after_leg on needed rests leg ≡ rests
leg_none on needed rests leg e =
    unused on (used_of_month rests on leg needed)
    (λ m. zero_if (is_in_tier leg m) (part_on on m.units) needed (side_before rests on leg m.month) e) rests

-- ---- after all legs

module _ (d : Direction) (n : ℕ) where
  after : MonthLeg → List MonthUnits → List MonthUnits
  after leg rests = rests_after_leg (market_side d leg.side) (n * leg.ratio) rests leg

  pub legs_rise : (legs : List MonthLeg) (rests : List MonthUnits) → MonthsRise rests → MonthsRise (rests_after d n legs rests)
  unfolding after
  legs_rise [] rests h = h
  legs_rise (leg ∷ legs) rests h = legs_rise legs (after leg rests) (leg_rise (market_side d leg.side) (n * leg.ratio) rests leg h)

  legs_less : (legs : List MonthLeg) (rests : List MonthUnits) → total_size (rests_after d n legs rests) ≤ total_size rests
  unfolding after
  legs_less [] rests = omega arith
  legs_less (leg ∷ legs) rests =
      let a = legs_less legs (after leg rests) in
      let b = leg_less (market_side d leg.side) (n * leg.ratio) rests leg in
      omega (arith, a, b)

  pub legs_shrink : (deltas : List MonthUnits) (legs : List MonthLeg) (rests : List MonthUnits) → Shrinks deltas rests
      → Shrinks deltas (rests_after d n legs rests)
  unfolding after
  legs_shrink deltas [] rests h = h
  legs_shrink deltas (leg ∷ legs) rests h =
      legs_shrink deltas legs (after leg rests) (leg_shrinks (market_side d leg.side) (n * leg.ratio) rests leg deltas h)

  pub legs_none : (legs : List MonthLeg) (rests : List MonthUnits) → n ≡ 0 → rests_after d n legs rests ≡ rests
  unfolding after
  legs_none [] rests e = refl
  legs_none (leg ∷ legs) rests e =
      let none : n * leg.ratio ≡ 0 = ap (λ k. k * leg.ratio) e ∙ omega arith in
      ap (rests_after d n legs) (leg_none (market_side d leg.side) (n * leg.ratio) rests leg none) ∙ legs_none legs rests e

  -- the total size falls by at least the number of spreads formed
  first_falls : (leg : MonthLeg) (legs : List MonthLeg) (rests : List MonthUnits) → MonthsRise rests → 0 < leg.ratio
      → n * leg.ratio ≤ tier_side rests (market_side d leg.side) leg
      → n + total_size (rests_after d n (leg ∷ legs) rests) ≤ total_size rests
  unfolding after
  first_falls leg legs rests rise above enough =
      let a = legs_less legs (after leg rests) in
      let b = leg_falls (market_side d leg.side) (n * leg.ratio) rests leg rise enough in
      let one : 1 ≤ leg.ratio = omega (arith, above) in
      let more : n * 1 ≤ n * leg.ratio = mul-le-mul (omega arith) one in
      omega (arith, a, b, more)

  fit_all : (legs : List MonthLeg) (rests : List MonthUnits) → FitsRooms n (tier_rooms d legs rests) → total_size rests ≤ MAX_UNITS
      → (k : ℕ) (x : MonthLeg) → k < length legs → n * (get_or legs k x).ratio ≤ MAX_UNITS
  fit_all [] rests fits small k x lt = absurd (omega (arith, lt))
  fit_all (leg ∷ legs) rests fits small zero x lt =
      let h : n * leg.ratio ≤ tier_side rests (market_side d leg.side) leg = fits.0 in
      let s = tier_side-le (market_side d leg.side) leg rests in
      omega (arith, h, s, small)
  fit_all (leg ∷ legs) rests fits small (suc k) x lt = fit_all legs rests fits.1 small k x (omega (arith, lt))

module _ (d : Direction) where
  -- no leg of the spreads formed needs more than MAX_UNITS
  pub formed_within : (legs : List MonthLeg) (rests : List MonthUnits) → total_size rests ≤ MAX_UNITS
      → All (λ leg. spreads_formed (tier_rooms d legs rests) * leg.ratio ≤ MAX_UNITS) legs
  formed_within [] rests small k x lt = absurd (omega (arith, lt))
  formed_within (leg ∷ legs) rests small k x lt =
      let others = tier_rooms d legs rests in
      fit_all d (spreads_formed (tier_rooms d (leg ∷ legs) rests)) (leg ∷ legs) rests
      (formed_fit (record { side = tier_side rests (market_side d leg.side) leg; ratio = leg.ratio }) others) small k x lt

  -- the total size falls by at least the number of spreads formed
  pub formed_falls : (legs : List MonthLeg) (rests : List MonthUnits) → MonthsRise rests → 0 < length legs
      → All (λ leg. 0 < leg.ratio) legs
      → spreads_formed (tier_rooms d legs rests) + total_size (rests_after d (spreads_formed (tier_rooms d legs rests)) legs rests)
      ≤ total_size rests
  formed_falls [] rests rise some above = absurd (omega (arith, some))
  formed_falls (leg ∷ legs) rests rise some above =
      let others = tier_rooms d legs rests in
      let fits = formed_fit (record { side = tier_side rests (market_side d leg.side) leg; ratio = leg.ratio }) others in
      first_falls d (spreads_formed (tier_rooms d (leg ∷ legs) rests)) leg legs rests rise (above 0 leg (omega arith)) fits.0

two_rates : (c n k r : ℕ) → c + n * r + k * r ≡ c + (n + k) * r
two_rates c n k r = let e : (n + k) * r ≡ n * r + k * r = add-mul n k r in omega (arith, e)

-- each spread formed is charged at the rate
pub charge-spread_both_ways : (t : TierRests) (s : Intra)
    → (spread_both_ways t s).charge ≡ t.charge + ((formed_both t s).a_long + (formed_both t s).a_short) * s.rate
unfolding spread_both_ways
charge-spread_both_ways t s = two_rates t.charge (formed_both t s).a_long (formed_both t s).a_short s.rate
