use Rattle.std.proofs.Common.{◌≡◌, ◌≤◌, ◌*◌, take, true}
use Rattle.span_tables.specs.declared.limits.TheConstants.{MAX_NET, MAX_DELTA, MAX_SCALE}
use Rattle.spread_stage.specs.Deltas.{month_deltas}
use Rattle.spread_stage.specs.Months.{MonthsRise, total_size}
use Rattle.spread_stage.specs.near.Uses.{gathered}
use Rattle.spread_stage.proofs.GatherLemmas.{NoneLater}
use Rattle.spread_stage.proofs.deltas.refilled.Given as goal

abbrev pub invariant-loop-i : goal.invariant-loop-i
invariant-loop-i l = record {
  value : gathered l.months.items ≡ month_deltas (take l.i l.held);
  rise : l.rise ≡ true → MonthsRise l.months.items × NoneLater l.latest l.months.items;
  small : total_size l.months.items ≤ l.i * (MAX_NET * MAX_DELTA * MAX_SCALE);
}
