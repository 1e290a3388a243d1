use Rattle.std.proofs.Common.{◌≡◌}
use Rattle.plan_tests.proofs.boards.offer_strangers.Given as goal

abbrev pub invariant-loop-step : goal.invariant-loop-step
invariant-loop-step g l = l.board.job ≡ l.initial.board.job
