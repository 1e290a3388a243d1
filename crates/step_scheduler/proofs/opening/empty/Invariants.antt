use Rattle.std.proofs.Common.{◌≡◌, ◌≤◌, replicate, vec_capacity, None}
use Rattle.step_scheduler.proofs.opening.empty.Given as goal

abbrev pub invariant-loop : goal.invariant-loop
invariant-loop l = (l.slots.items ≡ replicate l.counter None) × (l.count ≤ vec_capacity l.slots)
