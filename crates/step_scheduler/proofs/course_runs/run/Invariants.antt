use Rattle.std.proofs.Common.{◌≡◌, false, length}
use Rattle.step_scheduler.specs.near.Whole.{IsAtRest}
use Rattle.step_scheduler.proofs.AtRest.{untaken}
use Rattle.step_scheduler.proofs.course_runs.run.Given as goal

abbrev pub invariant-loop-alloc : goal.invariant-loop-alloc
invariant-loop-alloc l = record {
  same_job : l.board.job ≡ l.fn.board.job;
  live : l.board.failed ≡ false;
  at_rest : IsAtRest l.board.history;
}

abbrev pub decreases-loop-alloc : goal.decreases-loop-alloc
decreases-loop-alloc l = untaken l.board.history (length l.board.job.set.plan)
