use Rattle.std.proofs.Common.{◌≡◌, length}
use Rattle.step_scheduler.proofs.AtRest.{untaken}
use Rattle.worker_pool.proofs.open_boards.OpenBoard.hand_out.Given as goal

abbrev pub invariant-loop-task : goal.invariant-loop-task
invariant-loop-task g l = l.self.board.job ≡ l.initial.self.board.job

abbrev pub decreases-loop-task : goal.decreases-loop-task
decreases-loop-task g l = untaken l.self.board.history (length l.self.board.job.set.plan)
