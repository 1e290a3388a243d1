-- What contracts see of a board.
use Rattle.std.specs.Prelude.{◌≡◌, Bool, false, List, IfOk, IfSome, Option, Result}
use Rattle.plan_compiler.specs.Compiled.{SetView}
use Rattle.step_scheduler.specs.Jobs.{JobView}
use Rattle.step_scheduler.specs.Runs.{AllFinished}
use Rattle.step_scheduler.specs.declared.events.Event.{Event}

-- a job, what has happened to its steps, and whether the board has failed
pub record BoardView : Type 0 where
  pub job : JobView
  pub history : List Event
  pub failed : Bool

-- every step is finished, and the board has not failed
pub record IsComplete (b : BoardView) : Type 0 where
  pub live : b.failed ≡ false
  pub finished : AllFinished b.job.set.plan b.history

-- a compiled parameter set, and a run of its plan
pub record CourseView : Type 0 where
  pub set : SetView
  pub events : List Event

-- a property of the task, if one was handed out
abbrev pub IfHanded : {A E : Type 0} → Result (Option A) E → (A → Type 0) → Type 0
IfHanded result P = IfOk result (λ r. IfSome r P)
