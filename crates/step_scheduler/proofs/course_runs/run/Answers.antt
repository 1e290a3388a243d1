use Rattle.std.proofs.Common.{◌≡◌, length}
use Rattle.step_scheduler.proofs.AtRest.{after_step, fewer_untaken, still_at_rest, with_step}
use Rattle.step_scheduler.proofs.course_runs.run.Goals as goal
use Rattle.step_scheduler.proofs.course_runs.run.Goals.{After-finish-kept}

-- the board after a pass of the loop: one more step was taken and finished
after_turn : (c : After-finish-kept)
    → c.finish-kept.new.self ≡ record c.loop-alloc.board { history = with_step c.loop-alloc.board.history c.in-Some.task.step }
after_turn c =
    let same = c.in_ok-evaluated.ensures.step in
    let not_taken = rw same at c.finish-kept.ensures.not_taken in
    after_step c.loop-alloc.board c.take_ready.new.self c.finish-kept.new.self c.in-Some.task.step
    c.in_ok-evaluated.field-0.value c.finish-kept.result c.loop-alloc.invariant.live c.loop-alloc.invariant.at_rest
    (rw c.in-Some.is at c.in_ok-task.ensures.ready) (rw c.in-Some.is at c.in_ok-task.ensures.taken)
    c.in_ok-evaluated.ensures.value c.finish-kept.ensures.failed.0 (λ e. (not_taken.0 e).1)
    (rw same at c.finish-kept.ensures.value)

pub loop-alloc-smaller : goal.loop-alloc-smaller
loop-alloc-smaller c =
    let old = c.loop-alloc.board in
    let ready = rw c.in-Some.is at c.in_ok-task.ensures.ready in
    rw (after_turn (goal.at.loop-alloc-smaller c).After-finish-kept)
    (fewer_untaken old.history c.in-Some.task.step (length old.job.set.plan) ready.in_range ready.fresh)

pub loop-alloc-preserved : goal.loop-alloc-preserved
loop-alloc-preserved c =
    rw (after_turn (goal.at.loop-alloc-preserved c).After-finish-kept)
    (record {
      same_job = c.loop-alloc.invariant.same_job;
      live = c.loop-alloc.invariant.live;
      at_rest = still_at_rest c.loop-alloc.board.history c.in-Some.task.step c.loop-alloc.invariant.at_rest;
    })
