use Rattle.std.proofs.Common.{◌≡◌, ◌++◌, ◌∷◌, []}
use Rattle.plan_compiler.specs.Plan.{each}
use Rattle.plan_ir.specs.declared.ops.Op.TheVariants as op
use Rattle.plan_compiler.proofs.operations.push_value_adds.Given as goal

abbrev pub invariant-loop-c : goal.invariant-loop-c
invariant-loop-c l = l.ops.items ≡ l.initial.ops.items ++ each (λ n. op.ValueAdd n ∷ []) l.c
