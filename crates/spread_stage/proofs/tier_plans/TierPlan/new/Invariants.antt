use Rattle.std.proofs.Common.{◌≡◌, map, take, All}
use Rattle.spread_stage.specs.near.TierPlans.{AreIndexed, AreKnown, intra_of}
use Rattle.spread_stage.proofs.tier_plans.TierPlan.new.Given as goal

abbrev pub invariant-loop-intra : goal.invariant-loop-intra
invariant-loop-intra l = record {
  value : map intra_of l.spreads.items ≡ take l.intra-index l.intras;
  known : All (AreKnown l.tiers) l.spreads.items;
  indexed : AreIndexed l.index l.spreads.items;
}
