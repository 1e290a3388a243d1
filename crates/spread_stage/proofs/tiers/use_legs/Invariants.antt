use Rattle.std.proofs.Common.{◌≡◌, ◌≤◌, take}
use Rattle.spread_stage.specs.Months.{MonthsRise, total_size}
use Rattle.spread_stage.specs.Spreads.{rests_after}
use Rattle.span_tables.specs.declared.limits.TheConstants.{MAX_UNITS}
use Rattle.spread_stage.proofs.tiers.use_legs.Given as goal

abbrev pub invariant-loop-leg : goal.invariant-loop-leg
invariant-loop-leg l = record {
  value : l.rests ≡ rests_after l.direction l.formed (take l.leg-index l.legs) l.fn.rests;
  rise : MonthsRise l.rests;
  small : total_size l.rests ≤ MAX_UNITS;
}
