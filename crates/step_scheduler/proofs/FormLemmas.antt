-- Properties of a board in either form.
use Rattle.std.proofs.Common.{◌≡◌, List}
use Rattle.plan_compiler.specs.Compiled.{Fits, IsCompiled}
use Rattle.step_scheduler.specs.Jobs.{JobView}
use Rattle.step_scheduler.specs.Runs.{AllFinished, IsRun}
use Rattle.step_scheduler.specs.declared.boards.Form.{Form}
use Rattle.step_scheduler.specs.declared.boards.Form.TheVariants as form
use Rattle.step_scheduler.specs.declared.events.Event.{Event}
use Rattle.step_scheduler.specs.declared.stepped.Stepped.{Stepped}
use Rattle.step_scheduler.specs.near.Forms.{IsBoard, history_of}
use Rattle.step_scheduler.specs.near.Slots.{HasAllValues}
use Rattle.step_scheduler.proofs.Counted.{stored_when_complete}

-- the history is a run of the job's plan
pub record IsRunOf (job : JobView) (history : List Event) : Type 0 where
  pub compiled : IsCompiled job.set
  pub fits : Fits job.set.tables (job.portfolio).holdings
  pub run : IsRun job.set.plan history

-- the history of a board is a run of its job's plan
pub board_runs : (job : JobView) (f : Form) → IsBoard job f → IsRunOf job (history_of f)
board_runs job (form.Stepped s) b = record { compiled = b.board.compiled; fits = b.board.fits; run = b.board.run }
board_runs job (form.Whole w) b = record { compiled = b.compiled; fits = b.fits; run = b.course.run }

-- if every step is finished, each value is stored
pub all_values : (job : JobView) (f : Form) (s : Stepped) → f ≡ form.Stepped s → IsBoard job f
    → AllFinished job.set.plan (history_of f) → HasAllValues job s.slots.items
all_values job f s is board all =
    let b = rw is at board in
    let finished = rw is at all in
    record { means = b.values.means; every = λ k lt. stored_when_complete _ _ _ _ _ _ _ _ _ b finished lt }
