use Rattle.std.proofs.Common.{◌≡◌, ℕ, drop}
use Rattle.plan_ir.specs.Figures.{total_to}
use Rattle.step_scheduler.specs.near.Parts.{ArePartsFrom}
use Rattle.step_scheduler.proofs.parts.total_of.Given as goal

abbrev pub invariant-loop-part : goal.invariant-loop-part
invariant-loop-part l =
    (next : ℕ) × ArePartsFrom l.tables (l.portfolio).holdings next (drop l.part-index l.parts)
    × (l.total ≡ total_to l.tables (l.portfolio).holdings next)
