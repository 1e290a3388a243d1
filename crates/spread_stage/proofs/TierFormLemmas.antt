-- Spreads formed over the sums of tiers are the spreads formed over the remaining deltas.
use Rattle.std.proofs.Common.{◌≡◌, ℕ, ◌+◌, ◌*◌, ◌<◌, ◌≤◌, List, [], ◌∷◌, ◌++◌, refl, sym, ap, ◌∙◌, subst, arith, get_or, length, map, take}
use Rattle.std.specs.Prelude.{All}
use Rattle.std.proofs.lemmas.List.{length-map, map-append, take_more}
use Rattle.std.proofs.lemmas.List.Sums.{fold_push}
use Rattle.std.proofs.lemmas.List.Elements.{All-head, All-tail}
use Rattle.span_tables.specs.Sides.{market_side, spreads_formed}
use Rattle.span_tables.specs.declared.legs.MonthLeg.{MonthLeg}
use Rattle.span_tables.specs.declared.limits.TheConstants.{MAX_TIERS, MAX_UNITS}
use Rattle.span_tables.specs.declared.records.Tier.{Tier}
use Rattle.span_tables.specs.declared.sides.Direction.{Direction}
use Rattle.span_tables.specs.declared.sides.MarketSide.{MarketSide}
use Rattle.span_tables.proofs.GroupLemmas.{at_map}
use Rattle.spread_stage.specs.Months.{total_size}
use Rattle.spread_stage.specs.Spreads.{rests_after, rests_after_leg, tier_rooms, tier_side}
use Rattle.spread_stage.specs.near.TierPlans.{IsKnown}
use Rattle.spread_stage.specs.near.TierSums.{AreSums, sum_of, sum_rooms}
use Rattle.spread_stage.specs.declared.months.MonthUnits.{MonthUnits}
use Rattle.spread_stage.specs.declared.tier_plans.TierLeg.{TierLeg}
use Rattle.spread_stage.specs.declared.tier_sums.TierSums.{TierSums}
use Rattle.spread_stage.proofs.SpreadLemmas.{formed_within}
use Rattle.spread_stage.proofs.TierSumLemmas.{side_of_tier}

abbrev pub months_in : List TierLeg → List MonthLeg
months_in legs = map (λ leg. leg.months) legs

module _ (d : Direction) where
  -- the sums of the legs' sides are the sides of their tiers
  pub rooms_are : (tiers : List Tier) (rests : List MonthUnits) (sums : TierSums) → AreSums tiers rests sums → (legs : List TierLeg)
      → All (IsKnown tiers) legs → sum_rooms d legs sums ≡ tier_rooms d (months_in legs) rests
  rooms_are tiers rests sums are [] known = refl
  rooms_are tiers rests sums are (leg ∷ legs) known =
      let first : IsKnown tiers leg = All-head (IsKnown tiers) leg legs known in
      let on : MarketSide = market_side d leg.months.side in
      let here : sum_of sums on leg.tier ≡ tier_side rests on leg.months =
      are.sums leg.tier first.within on ∙ side_of_tier tiers leg first rests on in
      let rest = rooms_are tiers rests sums are legs (All-tail (IsKnown tiers) leg legs known) in
      λ i. record { side = here i; ratio = leg.months.ratio } ∷ rest i

  -- no leg of the spreads formed needs more than MAX_UNITS
  pub legs_fit : (legs : List TierLeg) (rests : List MonthUnits) (n : ℕ) → total_size rests ≤ MAX_UNITS
      → n ≡ spreads_formed (tier_rooms d (months_in legs) rests) → All (λ leg. n * leg.months.ratio ≤ MAX_UNITS) legs
  legs_fit legs rests n small is k x lt =
      let all = formed_within d (months_in legs) rests small k x.months
      (subst (λ m. k < m) (sym (length-map legs (λ (leg : TierLeg). leg.months))) lt) in
      let same : get_or (months_in legs) k x.months ≡ (get_or legs k x).months =
      at_map (λ (leg : TierLeg). leg.months) legs k x x.months lt in
      subst (λ m. m * (get_or legs k x).months.ratio ≤ MAX_UNITS) (sym is)
      (subst (λ (leg : MonthLeg). spreads_formed (tier_rooms d (months_in legs) rests) * leg.ratio ≤ MAX_UNITS) same all)

  -- one more leg uses what it needs
  pub used_more : (n : ℕ) (rests : List MonthUnits) (legs : List TierLeg) (i : ℕ) (leg : TierLeg) → i < length legs
      → leg ≡ get_or legs i leg
      → rests_after d n (months_in (take (i + 1) legs)) rests
      ≡ rests_after_leg (market_side d leg.months.side) (n * leg.months.ratio) (rests_after d n (months_in (take i legs)) rests) leg.months
  used_more n rests legs i leg lt is =
      let after : List MonthUnits → MonthLeg → List MonthUnits =
      λ rs x. rests_after_leg (market_side d x.side) (n * x.ratio) rs x in
      ap (λ xs. rests_after d n (months_in xs) rests)
      (take_more legs i leg lt ∙ ap (λ (x : TierLeg). take i legs ++ x ∷ []) (sym is))
      ∙ ap (λ xs. rests_after d n xs rests) (map-append (λ (x : TierLeg). x.months) (take i legs) (leg ∷ []))
      ∙ fold_push after rests (months_in (take i legs)) leg.months

-- the ratios of the legs by tier are above 0 if the ratios of the spread's legs are
pub ratios_kept : (legs : List TierLeg) → All (λ leg. 0 < leg.ratio) (months_in legs) → All (λ leg. 0 < leg.months.ratio) legs
ratios_kept legs above k x lt =
    subst (λ (leg : MonthLeg). 0 < leg.ratio) (at_map (λ (leg : TierLeg). leg.months) legs k x x.months lt)
    (above k x.months (subst (λ m. k < m) (sym (length-map legs (λ (leg : TierLeg). leg.months))) lt))

-- the tier of each leg has a sum
pub tiers_within : (tiers : List Tier) (legs : List TierLeg) → length tiers ≤ MAX_TIERS → All (IsKnown tiers) legs
    → All (λ leg. leg.tier < MAX_TIERS) legs
tiers_within tiers legs few known k x lt = let w = (known k x lt).within in omega (arith, w, few)
