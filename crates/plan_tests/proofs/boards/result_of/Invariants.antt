use Rattle.std.proofs.Common.{◌≡◌}
use Rattle.plan_tests.proofs.boards.result_of.Given as goal

abbrev pub invariant-loop : goal.invariant-loop
invariant-loop g l = (l.board.job ≡ l.initial.board.job) × (l.finished.job ≡ l.initial.board.job)
