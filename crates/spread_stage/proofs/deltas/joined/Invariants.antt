use Rattle.std.proofs.Common.{◌≡◌, ℕ, ◌≤◌, ◌<◌, length, get_or, take}
use Rattle.spread_stage.specs.Months.{MonthsRise, total_size}
use Rattle.spread_stage.specs.near.Uses.{gathered}
use Rattle.spread_stage.specs.declared.months.MonthUnits.{MonthUnits}
use Rattle.spread_stage.proofs.GatherLemmas.{NoneLater}
use Rattle.spread_stage.proofs.deltas.joined.Given as goal

abbrev pub invariant-loop-i : goal.invariant-loop-i
invariant-loop-i l = record {
  value : gathered l.months.items ≡ gathered (take l.i l.sorted);
  rise : MonthsRise l.months.items;
  earlier : (j : ℕ) (d : MonthUnits) → l.i ≤ j → j < length l.sorted → NoneLater (get_or l.sorted j d).month l.months.items;
  small : total_size l.months.items ≤ total_size (take l.i l.sorted);
}
