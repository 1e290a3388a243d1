-- The start of a run of a plan: the number of missing inputs of each step, and the steps without missing inputs.
use Rattle.std.specs.Prelude.{◌≡◌, ℕ, ◌+◌, ◌<◌, ◌==◌, List, [], ◌∷◌, All, length, nat_lt, slice_index, if◌then◌else◌}
use Rattle.plan_ir.specs.Plans.{StepView, inputs_at}

-- the number of occurrences of x in a list
abbrev pub times : ℕ → List ℕ → ℕ
times x [] = 0
times x (y ∷ ys) = (if y == x then 1 else 0) + times x ys

-- the number of inputs of each of the first k steps
pub record AreInputCounts (plan : List StepView) (missing : List ℕ) (k : ℕ) : Type 0 where
  pub long : length missing ≡ k
  pub counts : (j : ℕ) → j < k → slice_index missing j ≡ length (inputs_at plan j)

-- the steps without inputs among the first k steps, each once
pub record AreWithoutInputs (plan : List StepView) (ready : List ℕ) (k : ℕ) : Type 0 where
  pub in_range : All (λ x. x < k) ready
  pub listed : (j : ℕ) → times j ready ≡ (if nat_lt j k then (if length (inputs_at plan j) == 0 then 1 else 0) else 0)
