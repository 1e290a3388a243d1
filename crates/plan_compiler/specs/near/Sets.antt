-- The type invariant of a compiled set.
use Rattle.std.specs.Prelude.{◌≡◌, ℕ, ◌<◌, List, length}
use Rattle.span_tables.specs.Accepted.{IsWithinLimits}
use Rattle.span_tables.specs.Tables.{AcceptedTables}
use Rattle.plan_ir.specs.Plans.{StepView, inputs_at, op_at}
use Rattle.plan_compiler.specs.Compiled.{IsCompiled}
use Rattle.plan_compiler.specs.Plan.{IsPlanOf}
use Rattle.plan_compiler.specs.Places.{inputs_of}
use Rattle.plan_compiler.specs.near.Beginnings.{AreInputCounts, AreWithoutInputs}
use Rattle.plan_compiler.specs.near.Layout.{AreFirsts}

-- The plan is the plan of the tables, has each input at its index, and keeps the plan law. The lists have the numbers
-- of first steps, the number of inputs of each step, and the steps without inputs.
pub record IsSet (t : AcceptedTables) (plan : List StepView) (firsts missing ready : List ℕ) : Type 0 where
  pub limits : IsWithinLimits t
  pub is_plan : IsPlanOf t plan
  pub compiled : IsCompiled (record { tables = t; plan = plan })
  pub wires : (k : ℕ) → k < length plan → inputs_at plan k ≡ inputs_of t (op_at plan k)
  pub firsts_are : AreFirsts t firsts
  pub missing_are : AreInputCounts plan missing (length plan)
  pub ready_are : AreWithoutInputs plan ready (length plan)
