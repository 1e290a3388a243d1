use Rattle.std.proofs.Common.{◌≡◌, ℕ, drop}
use Rattle.plan_compiler.specs.Meaning.{states_loaded}
use Rattle.step_scheduler.specs.near.Parts.{ArePartsFrom}
use Rattle.step_scheduler.proofs.parts.load_all.Given as goal

abbrev pub invariant-loop-part : goal.invariant-loop-part
invariant-loop-part l =
    (next : ℕ) × ArePartsFrom l.tables (l.portfolio).holdings next (drop l.part-index l.parts)
    × (l.states ≡ states_loaded l.tables (l.portfolio).holdings next)
