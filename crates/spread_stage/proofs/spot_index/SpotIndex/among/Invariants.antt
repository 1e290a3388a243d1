use Rattle.std.proofs.Common.{◌≡◌, ◌<◌, ℕ, get_or}
use Rattle.std.specs.Int.{bit_at}
use Rattle.spread_stage.specs.near.SpotIndex.{HasSpot}
use Rattle.spread_stage.specs.declared.months.MonthUnits.{MonthUnits}
use Rattle.spread_stage.proofs.spot_index.SpotIndex.among.Given as goal

abbrev pub invariant-loop-month : goal.invariant-loop-month
invariant-loop-month l =
    (k i : ℕ) (m : MonthUnits) → i < l.month-index → HasSpot l.self k (get_or l.months i m).month → bit_at l.found k ≡ 1
