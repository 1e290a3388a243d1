-- The text of a plan.
use Rattle.std.specs.Prelude.{ℕ, List, ◌++◌, codes, decimal, flat_map}
use Rattle.std.specs.List.{enumerate_from}
use Rattle.plan_ir.specs.Plans.{StepView}
use Rattle.plan_ir.specs.declared.ops.Op.{Op}
use Rattle.plan_ir.specs.declared.ops.Op.TheVariants as op

-- a name with a number in parentheses
abbrev pub numbered : List ℕ → ℕ → List ℕ
numbered name number = name ++ codes "(" ++ decimal number ++ codes ")"

-- an operation with its numbers
abbrev pub op_text : Op → List ℕ
op_text (op.Gather c) = numbered (codes "Gather") c
op_text (op.Sums c) = numbered (codes "Sums") c
op_text (op.ScanMax c) = numbered (codes "ScanMax") c
op_text (op.Months c) = numbered (codes "Months") c
op_text (op.TierStart c) = numbered (codes "TierStart") c
op_text (op.Spread c j) = codes "Spread(" ++ decimal c ++ codes "," ++ decimal j ++ codes ")"
op_text (op.Delivery c) = numbered (codes "Delivery") c
op_text (op.Minimum c) = numbered (codes "Minimum") c
op_text (op.Final c) = numbered (codes "Final") c
op_text op.InterStart = codes "InterStart()"
op_text (op.InterLoad c) = numbered (codes "InterLoad") c
op_text (op.InterSpread j) = numbered (codes "InterSpread") j
op_text op.TotalStart = codes "TotalStart()"
op_text (op.TotalAdd c) = numbered (codes "TotalAdd") c
op_text (op.NetValue c) = numbered (codes "NetValue") c
op_text op.ValueStart = codes "ValueStart()"
op_text (op.ValueAdd c) = numbered (codes "ValueAdd") c

-- an input, preceded by a space
abbrev pub input_text : ℕ → List ℕ
input_text input = codes " " ++ decimal input

-- the line of a step: its number, its operation and its inputs
abbrev pub step_line : ℕ → StepView → List ℕ
step_line number step =
    decimal number ++ codes " " ++ op_text step.op ++ flat_map input_text step.inputs ++ codes "\n"

-- the lines of a plan
unfoldable pub plan_text : List StepView → List ℕ
plan_text plan = flat_map (λ numbered. step_line numbered.0 numbered.1) (enumerate_from 0 plan)
