use Rattle.std.proofs.Common.{◌≡◌, ◌++◌, ◌∷◌, []}
use Rattle.plan_compiler.specs.Plan.{each}
use Rattle.plan_ir.specs.declared.ops.Op.TheVariants as op
use Rattle.plan_compiler.proofs.operations.push_inter_spreads.Given as goal

abbrev pub invariant-loop-j : goal.invariant-loop-j
invariant-loop-j l = l.ops.items ≡ l.initial.ops.items ++ each (λ n. op.InterSpread n ∷ []) l.j
