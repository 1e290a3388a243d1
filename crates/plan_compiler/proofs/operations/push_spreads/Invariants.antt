use Rattle.std.proofs.Common.{◌≡◌, ◌++◌}
use Rattle.plan_compiler.specs.Plan.{spread_ops}
use Rattle.plan_compiler.proofs.operations.push_spreads.Given as goal

abbrev pub invariant-loop-j : goal.invariant-loop-j
invariant-loop-j l = l.ops.items ≡ l.initial.ops.items ++ spread_ops l.c l.j
