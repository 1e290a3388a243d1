use Rattle.std.proofs.Common.{◌<◌, ℕ, get_or}
use Rattle.span_tables.specs.declared.records.Spot.{Spot}
use Rattle.spread_stage.specs.near.SpotIndex.{HasSpot}
use Rattle.spread_stage.proofs.spot_index.SpotIndex.new.Given as goal

abbrev pub invariant-loop-number : goal.invariant-loop-number
invariant-loop-number l = (k : ℕ) (s : Spot) → k < l.number → HasSpot l.index k (get_or l.spots k s).month
