-- The steps without inputs, in the form that the code keeps.
use Rattle.std.specs.Prelude.{◌≡◌, ℕ, ◌<◌, ◌≤◌, ◌==◌, List, All, if◌then◌else◌, length}
use Rattle.plan_ir.specs.Plans.{StepView, inputs_at}
use Rattle.plan_compiler.specs.near.Beginnings.{times}

-- the steps from k on that have no inputs, each once
pub record AreWithoutFrom (plan : List StepView) (ready : List ℕ) (k : ℕ) : Type 0 where
  pub in_range : All (λ x. x < length plan) ready
  pub below : (j : ℕ) → j < k → times j ready ≡ 0
  pub from : (j : ℕ) → k ≤ j → j < length plan → times j ready ≡ (if length (inputs_at plan j) == 0 then 1 else 0)
  pub past : (j : ℕ) → length plan ≤ j → times j ready ≡ 0
