-- The sums of tiers stay right while spreads use months.
use Rattle.std.proofs.Common.{◌≡◌, ◌≢◌, ℕ, ◌-◌, ◌<◌, ◌≤◌, ◌==◌, ◌&&◌, Bool, true, false, cond, List}
use Rattle.std.proofs.Common.{refl, sym, ap, ◌∙◌, subst, arith, length, inl, inr, filter, sum_by}
use Rattle.std.specs.Prelude.{ℤ, ◌⊎◌, nat_le}
use Rattle.std.proofs.lemmas.Bool.Decides.{nat_tests}
use Rattle.std.proofs.lemmas.List.{length-map}
use Rattle.span_tables.specs.Sides.{part_on, less_used}
use Rattle.span_tables.specs.declared.legs.MonthLeg.{MonthLeg}
use Rattle.span_tables.specs.declared.limits.TheConstants.{MAX_TIERS}
use Rattle.span_tables.specs.declared.records.Tier.{Tier}
use Rattle.span_tables.specs.declared.sides.MarketSide.{MarketSide}
use Rattle.span_tables.specs.declared.sides.MarketSide.TheVariants.{Long, Short}
use Rattle.spread_stage.specs.Months.{MonthsRise}
use Rattle.spread_stage.specs.Spreads.{is_in_tier, rests_after_leg, tier_side, used_of_month}
use Rattle.spread_stage.specs.near.TierPlans.{IsKnown, tier_at}
use Rattle.spread_stage.specs.near.TierSums.{AreSums, AreTiers, IsChanged, months_of, span_of, sum_of}
use Rattle.spread_stage.specs.near.Uses.{IsSpan}
use Rattle.spread_stage.specs.declared.months.MonthUnits.{MonthUnits}
use Rattle.spread_stage.specs.declared.tier_plans.TierLeg.{TierLeg}
use Rattle.spread_stage.specs.declared.tier_sums.TierSums.{TierSums}
use Rattle.spread_stage.specs.declared.tiers.Span.{Span}
use Rattle.span_tables.proofs.GroupLemmas.{at_map}
use Rattle.spread_stage.proofs.ApartLaws.{long_kept, other_side, short_kept}
use Rattle.spread_stage.proofs.FallLemmas.{side_left}
use Rattle.spread_stage.proofs.SpreadLemmas.{none_used, within}
use Rattle.spread_stage.proofs.UseLaws.{weight}

-- ---- what a use leaves unchanged

same_if : (b : Bool) (x y : ℕ) → (b ≡ true → x ≡ y) → cond b x 0 ≡ cond b y 0
same_if true x y same = same refl
same_if false x y same = refl

-- a use leaves a side unchanged if it leaves the part of each of its months unchanged
side_stays : (on side : MarketSide) (leg other : MonthLeg) (needed : ℕ) (rests : List MonthUnits)
    → ((m : MonthUnits) → is_in_tier leg m ≡ true
    → part_on side (less_used on m.units (used_of_month rests on other needed m)) ≡ part_on side m.units)
    → tier_side (rests_after_leg on needed rests other) side leg ≡ tier_side rests side leg
unfolding weight
side_stays on side leg other needed rests same =
    other_side side leg (λ m. record { month = m.month; units = less_used on m.units (used_of_month rests on other needed m) })
    (λ m. same_if (is_in_tier leg m) _ _ (same m)) rests

other_part : (on side : MarketSide) → (side ≡ on → ⊥) → (z : ℤ) (u : ℕ) → u ≤ part_on on z
    → part_on side (less_used on z u) ≡ part_on side z
other_part Long Long apart z u le = absurd (apart refl)
other_part Long Short apart z u le = short_kept z u le
other_part Short Long apart z u le = long_kept z u le
other_part Short Short apart z u le = absurd (apart refl)

-- a use leaves the other side of the market unchanged
other_side_stays : (on side : MarketSide) (leg other : MonthLeg) (needed : ℕ) (rests : List MonthUnits) → (side ≡ on → ⊥)
    → tier_side (rests_after_leg on needed rests other) side leg ≡ tier_side rests side leg
other_side_stays on side leg other needed rests apart =
    side_stays on side leg other needed rests (λ m inside. other_part on side apart m.units _ (within rests on other needed m))

pub outside : (b : Bool) → (b ≡ true → ⊥) → b ≡ false
outside true never = absurd (never refl)
outside false never = refl

-- a use leaves a tier unchanged that has no month in common with the used one
other_tier_stays : (on side : MarketSide) (leg other : MonthLeg) (needed : ℕ) (rests : List MonthUnits)
    → ((m : MonthUnits) → is_in_tier leg m ≡ true → is_in_tier other m ≡ true → ⊥)
    → tier_side (rests_after_leg on needed rests other) side leg ≡ tier_side rests side leg
other_tier_stays on side leg other needed rests apart =
    side_stays on side leg other needed rests
    (λ m inside. let out : is_in_tier other m ≡ false = outside (is_in_tier other m) (apart m inside) in
    let none : used_of_month rests on other needed m ≡ 0 = rw out refl in
    ap (part_on side) (none_used on m.units (used_of_month rests on other needed m) none))

-- ---- the tier of a leg

module _ (tiers : List Tier) (leg : TierLeg) (known : IsKnown tiers leg) where
  -- the side of a leg is the side of its tier
  pub side_of_tier : (rests : List MonthUnits) (on : MarketSide)
      → tier_side rests on (months_of (tier_at tiers leg.tier)) ≡ tier_side rests on leg.months
  side_of_tier rests on =
      let last = (tier_at tiers leg.tier).last in
      let side : (MonthUnits → Bool) → ℕ = λ p. sum_by (λ m. part_on on m.units) (filter p rests) in
      ap (λ f. side (λ m. nat_le f m.month && nat_le m.month last)) known.first
      ∙ ap (λ l. side (λ m. nat_le leg.months.first m.month && nat_le m.month l)) known.last

  in_tier : (m : MonthUnits) → is_in_tier leg.months m ≡ true → is_in_tier (months_of (tier_at tiers leg.tier)) m ≡ true
  in_tier m inside =
      ap (λ f. nat_le f m.month && nat_le m.month (tier_at tiers leg.tier).last) known.first
      ∙ ap (λ l. nat_le leg.months.first m.month && nat_le m.month l) known.last ∙ inside

-- ---- one more use

-- a use leaves all months where they are
span_after : (on : MarketSide) (needed : ℕ) (rests : List MonthUnits) (used leg : MonthLeg) (span : Span) → IsSpan rests leg span
    → IsSpan (rests_after_leg on needed rests used) leg span
span_after on needed rests used leg span is =
    let after : MonthUnits → MonthUnits =
    λ m. record { month = m.month; units = less_used on m.units (used_of_month rests on used needed m) } in
    let long = length-map rests after in
    record {
      up = is.up;
      within = let within = is.within in omega (arith, within, long);
      outside = λ k m lt side.
          let below : k < length rests = omega (arith, lt, long) in
          ap (is_in_tier leg) (at_map after rests k m m below) ∙ is.outside k m below side;
    }

by_market : (on side : MarketSide) → (side ≡ on) ⊎ (side ≡ on → ⊥)
by_market Long Long = inl refl
by_market Long Short = inr (λ e. cc)
by_market Short Long = inr (λ e. cc)
by_market Short Short = inl refl

module _ (tiers : List Tier) (rests : List MonthUnits) (on : MarketSide) (leg : TierLeg) (needed : ℕ) (before after : TierSums)
    (rise : MonthsRise rests) (tiers_are : AreTiers tiers) (known : IsKnown tiers leg) (are : AreSums tiers rests before)
    (changed : IsChanged on leg.tier (sum_of before on leg.tier - needed) before after)
    (spans : (k : ℕ) → span_of after k ≡ span_of before k) where
  abbrev later : List MonthUnits
  later = rests_after_leg on needed rests leg.months

  old : (side : MarketSide) → sum_of before side leg.tier ≡ tier_side rests side leg.months
  old side = are.sums leg.tier known.within side ∙ side_of_tier tiers leg known rests side

  few : (k : ℕ) → k < length tiers → k < MAX_TIERS
  few k lt = let most = tiers_are.few in omega (arith, most, lt)

  same_tier : (side : MarketSide) → (side ≡ on) ⊎ (side ≡ on → ⊥) → sum_of after side leg.tier ≡ tier_side later side leg.months
  same_tier side (inl same) =
      subst (λ z. sum_of after z leg.tier ≡ tier_side later z leg.months) (sym same)
      (changed.here ∙ ap (λ n. n - needed) (old on) ∙ sym (side_left on leg.months rests needed rise))
  same_tier side (inr other) =
      changed.others side leg.tier (few leg.tier known.within) (λ same e. other same) ∙ old side
      ∙ sym (other_side_stays on side leg.months leg.months needed rests other)

  each : (k : ℕ) (b : Bool) → (k == leg.tier) ≡ b → k < length tiers → (side : MarketSide)
      → sum_of after side k ≡ tier_side later side (months_of (tier_at tiers k))
  each k true e lt side =
      let is : k ≡ leg.tier = grind (arith, nat_tests, e) in
      subst (λ n. sum_of after side n ≡ tier_side later side (months_of (tier_at tiers n))) (sym is)
      (same_tier side (by_market on side) ∙ sym (side_of_tier tiers leg known later side))
  each k false e lt side =
      let other : k ≢ leg.tier = grind (arith, nat_tests, e) in
      changed.others side k (few k lt) (λ same e. other e) ∙ are.sums k lt side
      ∙ sym (other_tier_stays on side (months_of (tier_at tiers k)) leg.months needed rests
      (λ m inside used. tiers_are.apart k leg.tier lt known.within other m inside (in_tier tiers leg known m used)))

  -- after a use of a side, the sums are the sums of what is left
  pub sums_after : (now : List MonthUnits) → now ≡ later → AreSums tiers now after
  sums_after now is = record {
    sums = λ k lt side. each k (k == leg.tier) refl lt side ∙ ap (λ xs. tier_side xs side (months_of (tier_at tiers k))) (sym is);
    spans = λ k lt. subst (λ xs. IsSpan xs (months_of (tier_at tiers k)) (span_of after k)) (sym is)
        (subst (IsSpan later (months_of (tier_at tiers k))) (sym (spans k))
        (span_after on needed rests leg.months (months_of (tier_at tiers k)) (span_of before k) (are.spans k lt)));
  }
