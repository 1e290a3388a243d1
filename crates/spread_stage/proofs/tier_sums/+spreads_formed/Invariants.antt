use Rattle.std.proofs.Common.{length}
use Rattle.spread_stage.proofs.tier_sums.+spreads_formed.Given as goal

abbrev pub decreases-spreads_formed : goal.decreases-spreads_formed
decreases-spreads_formed l = length l.legs.now
