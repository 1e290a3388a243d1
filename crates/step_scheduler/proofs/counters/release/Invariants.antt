use Rattle.std.proofs.Common.{length, reverse, take, vec_capacity}
use Rattle.step_scheduler.specs.near.Counts.{Released}
use Rattle.step_scheduler.proofs.counters.release.Given as goal

abbrev pub invariant-loop-user : goal.invariant-loop-user
invariant-loop-user l =
    Released (take (length l.yielded) (reverse l.users)) l.initial.missing.items l.missing.items l.initial.ready.items
    l.ready.items (vec_capacity l.initial.ready) (vec_capacity l.ready)
