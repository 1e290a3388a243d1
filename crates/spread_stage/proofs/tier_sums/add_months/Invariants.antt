use Rattle.std.proofs.Common.{take}
use Rattle.spread_stage.specs.near.TierSums.{AreOpen, AreSums}
use Rattle.spread_stage.proofs.tier_sums.add_months.Given as goal

abbrev pub invariant-loop-place : goal.invariant-loop-place
invariant-loop-place l = record {
  sums : AreSums l.tiers (take l.place l.months) l.sums;
  sides : AreOpen l.tiers l.sums l.sides;
}
