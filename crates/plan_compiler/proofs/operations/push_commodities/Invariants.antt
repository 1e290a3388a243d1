use Rattle.std.proofs.Common.{◌≡◌, ◌++◌}
use Rattle.plan_compiler.specs.Plan.{commodity_ops, each}
use Rattle.plan_compiler.proofs.operations.push_commodities.Given as goal

abbrev pub invariant-loop-c : goal.invariant-loop-c
invariant-loop-c l = l.ops.items ≡ l.initial.ops.items ++ each (commodity_ops l.tables) l.c
