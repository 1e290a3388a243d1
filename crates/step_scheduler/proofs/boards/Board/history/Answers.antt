use Rattle.std.specs.Arc.{arc_value}
use Rattle.step_scheduler.proofs.FormLemmas.{board_runs}
use Rattle.step_scheduler.proofs.RunValues.{run_means}
use Rattle.step_scheduler.proofs.RunOnce.{run_once}
use Rattle.step_scheduler.proofs.boards.Board.history.Goals as goal

pub returns-clause-run : goal.returns-clause-run
returns-clause-run c = rw (← c.self.view_is) (board_runs _ _ c.self.invariant).run

pub returns-clause-values : goal.returns-clause-values
returns-clause-values c =
    rw (← c.self.view_is)
    (let b = board_runs _ _ c.self.invariant in run_means (arc_value c.self.inside.job) b.compiled b.fits _ b.run)

pub returns-clause-once : goal.returns-clause-once
returns-clause-once c = rw (← c.self.view_is) (run_once _ _ (board_runs _ _ c.self.invariant).run)
