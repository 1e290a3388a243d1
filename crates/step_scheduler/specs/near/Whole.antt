-- Invariants of runs in which every step is taken and finished.
use Rattle.std.specs.Arc.{arc_value}
use Rattle.std.specs.Prelude.{◌≡◌, ℕ, List, length}
use Rattle.plan_ir.specs.Figures.{option_value_of, total_to}
use Rattle.plan_compiler.specs.Compiled.{Fits, IsCompiled, SetView}
use Rattle.step_scheduler.specs.Jobs.{JobView}
use Rattle.step_scheduler.specs.Runs.{AllFinished, IsRun, is_finished, is_taken}
use Rattle.step_scheduler.specs.declared.events.Event.{Event}
use Rattle.step_scheduler.specs.declared.whole.Whole.{Whole}
use Rattle.step_scheduler.specs.near.Figures.{AreHeldFigures}

-- no step is under way: each step that was taken is finished
abbrev pub IsAtRest : List Event → Type 0
IsAtRest history = (k : ℕ) → is_taken history k ≡ is_finished history k

-- a run of the plan of the parameter set in which every step is finished
pub record IsCourse (set : SetView) (events : List Event) : Type 0 where
  pub run : IsRun set.plan events
  pub all : AllFinished set.plan events

-- the figures, the total and the option value of a job
pub record HasResults (job : JobView) (whole : Whole) : Type 0 where
  pub figures_are : AreHeldFigures job.set.tables (job.portfolio).holdings whole.figures
  pub total_is : whole.total ≡ total_to job.set.tables (job.portfolio).holdings (length job.set.tables.commodities)
  pub value_is : whole.value ≡ option_value_of job.set.tables (job.portfolio).holdings

-- a run of the job in which every step is finished, with the results of the job
pub record IsWhole (job : JobView) (whole : Whole) : Type 0 where
  pub compiled : IsCompiled job.set
  pub fits : Fits job.set.tables (job.portfolio).holdings
  pub course : IsCourse job.set (arc_value whole.events).items
  pub results : HasResults job whole
