use Rattle.std.proofs.Common.{◌≡◌, IfSome}
use Rattle.plan_tests.proofs.boards.first_task.Given as goal

abbrev pub invariant-loop : goal.invariant-loop
invariant-loop g l = (l.board.job ≡ l.initial.board.job) × IfSome l.first (λ task. task.job ≡ l.initial.board.job)
