use Rattle.std.proofs.Common.{◌≤◌, length, vec_capacity}
use Rattle.plan_compiler.specs.near.Beginnings.{AreInputCounts}
use Rattle.plan_compiler.proofs.counters.input_counts.Given as goal

abbrev pub invariant-loop-k : goal.invariant-loop-k
invariant-loop-k l = AreInputCounts l.plan l.counts.items l.k × (length l.plan ≤ vec_capacity l.counts)
