use Rattle.std.proofs.Common.{◌++◌, ◌-◌, ◌≤◌, ℕ, List, drop, length}
use Rattle.span_tables.specs.near.Runs.{AreLeft}
use Rattle.step_scheduler.specs.declared.run_memory.Part.{Part}
use Rattle.step_scheduler.specs.near.Parts.{ArePartsFrom}
use Rattle.step_scheduler.proofs.parts.parts_of_runs.Given as goal

abbrev pub invariant-loop-done : goal.invariant-loop-done
invariant-loop-done g l = record {
  inside : l.done ≤ length l.holdings;
  left : (next : ℕ) × (next ≤ length (l.tables).commodities)
      × AreLeft l.tables (l.portfolio).holdings next (drop l.done l.holdings)
      × ((rest : List Part) → ArePartsFrom l.tables (l.portfolio).holdings next rest
      → ArePartsFrom l.tables (l.portfolio).holdings 0 (l.memory.parts.items ++ rest));
}

abbrev pub decreases-loop-done : goal.decreases-loop-done
decreases-loop-done g l = length l.holdings - l.done
