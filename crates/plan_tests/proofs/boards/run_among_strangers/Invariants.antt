use Rattle.std.proofs.Common.{◌≡◌}
use Rattle.plan_tests.proofs.boards.run_among_strangers.Given as goal

abbrev pub invariant-loop : goal.invariant-loop
invariant-loop g l = l.board.job ≡ l.initial.board.job
