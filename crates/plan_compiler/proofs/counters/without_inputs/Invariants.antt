use Rattle.plan_compiler.specs.near.Ready.{AreWithoutFrom}
use Rattle.plan_compiler.proofs.counters.without_inputs.Given as goal

abbrev pub invariant-loop-k : goal.invariant-loop-k
invariant-loop-k l = AreWithoutFrom l.plan l.steps.items l.k
