-- The values that operations overwrite in a copy.
use Rattle.std.specs.Prelude.{⊤}
use Rattle.plan_ir.specs.declared.ops.Op.{Op}
use Rattle.plan_ir.specs.declared.ops.Op.TheVariants as op
use Rattle.plan_ir.specs.declared.values.Value.{Value}
use Rattle.plan_ir.specs.declared.values.Value.TheVariants as value

-- a value of a kind that some operation overwrites
abbrev pub IsChangeable : Value → Type 0
IsChangeable (value.Tiers x) = ⊤
IsChangeable (value.Inter x) = ⊤
IsChangeable (value.Total x) = ⊤
IsChangeable (value.Premium x) = ⊤
IsChangeable v = ⊥

-- the operation changes its first input
abbrev pub IsInPlace : Op → Type 0
IsInPlace (op.Spread c j) = ⊤
IsInPlace (op.InterLoad c) = ⊤
IsInPlace (op.InterSpread j) = ⊤
IsInPlace (op.TotalAdd c) = ⊤
IsInPlace (op.ValueAdd c) = ⊤
IsInPlace o = ⊥
