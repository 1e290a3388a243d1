use Rattle.std.proofs.Common.{◌∙◌, ap, length}
use Rattle.step_scheduler.specs.Boards.{BoardView}
use Rattle.step_scheduler.specs.Runs.{is_taken}
use Rattle.step_scheduler.proofs.AtRest.{fewer_after}
use Rattle.worker_pool.proofs.open_boards.OpenBoard.hand_out.Goals as goal

pub loop-task-smaller : goal.loop-task-smaller
loop-task-smaller g c =
    let old = c.loop-task.self.board in
    let k = c.in-Some.task.task.step in
    let ready = rw c.in-Some.is at c.in_ok-task.ensures.ready in
    let taken = rw c.in-Some.is at c.in_ok-task.ensures.taken in
    rw (c.finish_if_done.ensures.same_job, c.take.ensures.same_job)
    (fewer_after old.history c.finish_if_done.new.self.board.history k (length old.job.set.plan) ready.in_range ready.fresh
    (λ j. c.finish_if_done.ensures.taken j ∙ ap (λ (b : BoardView). is_taken b.history j) taken))
