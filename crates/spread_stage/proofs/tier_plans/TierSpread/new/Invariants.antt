use Rattle.std.proofs.Common.{◌≡◌, map, take, All}
use Rattle.spread_stage.specs.near.TierPlans.{IsKnown}
use Rattle.spread_stage.proofs.tier_plans.TierSpread.new.Given as goal

abbrev pub invariant-loop-leg : goal.invariant-loop-leg
invariant-loop-leg l = record {
  value : map (λ leg. leg.months) l.legs.items ≡ take l.leg-index l.intra.legs;
  known : All (IsKnown l.tiers) l.legs.items;
}
