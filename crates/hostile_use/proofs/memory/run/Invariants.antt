use Rattle.std.proofs.Common.{◌≡◌}
use Rattle.hostile_use.proofs.memory.run.Given as goal

abbrev pub invariant-loop : goal.invariant-loop
invariant-loop g l = l.board.job ≡ l.initial.board.job
