-- The contract view of a plan: a list of steps, each an operation with the numbers of the steps that are its inputs.
use Rattle.std.specs.Prelude.{◌≡◌, ℕ, ◌+◌, ◌<◌, ◌≤◌, Bool, ◌==◌, false, if◌then◌else◌, List, [], ◌∷◌, All, length, map, slice_index_or}
use Rattle.std.specs.List.{list_any}
use Rattle.span_tables.specs.Names.{has_repeat}
use Rattle.plan_ir.specs.declared.plans.TheConstants.{MAX_STEPS}
use Rattle.plan_ir.specs.declared.ops.Op.{Op}
use Rattle.plan_ir.specs.declared.ops.Op.TheVariants as op

-- a step: its operation, and the numbers of its inputs
pub record StepView : Type 0 where
  pub op : Op
  pub inputs : List ℕ

-- a step for a number past the end
abbrev pub no_step : StepView
no_step = record { op = op.TotalStart; inputs = [] }

-- the step of a number
abbrev pub step_at : List StepView → ℕ → StepView
step_at plan k = slice_index_or plan k no_step

-- the operation of step k
abbrev pub op_at : List StepView → ℕ → Op
op_at plan k = (step_at plan k).op

-- the inputs of step k
abbrev pub inputs_at : List StepView → ℕ → List ℕ
inputs_at plan k = (step_at plan k).inputs

-- the operations of the steps
abbrev pub ops_in : List StepView → List Op
ops_in plan = map (λ s. s.op) plan

-- the inputs of each step
abbrev pub inputs_in : List StepView → List (List ℕ)
inputs_in plan = map (λ s. s.inputs) plan

-- a list contains a number
abbrev pub is_step_among : ℕ → List ℕ → Bool
is_step_among k numbers = list_any (λ n. k == n) numbers

-- the indexes of the lists that contain k, in increasing order, counted from first
abbrev pub places_from : ℕ → ℕ → List (List ℕ) → List ℕ
places_from first k [] = []
places_from first k (numbers ∷ lists) =
    if is_step_among k numbers then first ∷ places_from (first + 1) k lists else places_from (first + 1) k lists

-- the users of step k: the steps that have k among their inputs, in increasing order
abbrev pub users_of : List StepView → ℕ → List ℕ
users_of plan k = places_from 0 k (inputs_in plan)

-- the steps of these operations, each with its inputs
abbrev pub steps_with : List Op → List (List ℕ) → List StepView
steps_with [] lists = []
steps_with (o ∷ ops) [] = []
steps_with (o ∷ ops) (inputs ∷ lists) = record { op = o; inputs = inputs } ∷ steps_with ops lists

-- There is one list of inputs for each operation, and at most `MAX_STEPS` operations. Each list has numbers of these
-- operations, each at most once.
pub record AreInputs (ops : List Op) (lists : List (List ℕ)) : Type 0 where
  pub few : length ops ≤ MAX_STEPS
  pub as_many : length lists ≡ length ops
  pub in_range : All (λ inputs. All (λ i. i < length ops) inputs) lists
  pub distinct : All (λ inputs. has_repeat (λ a b. a == b) inputs ≡ false) lists
