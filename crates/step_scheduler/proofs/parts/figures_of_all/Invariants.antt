use Rattle.std.proofs.Common.{ℕ, drop}
use Rattle.step_scheduler.specs.near.Figures.{AreFilled}
use Rattle.step_scheduler.specs.near.Parts.{ArePartsFrom}
use Rattle.step_scheduler.proofs.parts.figures_of_all.Given as goal

abbrev pub invariant-loop-part : goal.invariant-loop-part
invariant-loop-part l =
    (next : ℕ) × ArePartsFrom l.tables (l.portfolio).holdings next (drop l.part-index l.parts)
    × AreFilled l.tables (l.portfolio).holdings next l.held
