-- The invariant of a board that hands out its steps one by one.
use Rattle.std.specs.Prelude.{◌≡◌, ℕ, ◌*◌, ◌≤◌, List, length, sum_by}
use Rattle.plan_compiler.specs.Compiled.{Fits, IsCompiled}
use Rattle.step_scheduler.specs.Jobs.{JobView}
use Rattle.step_scheduler.specs.Runs.{IsRun, is_finished, is_taken}
use Rattle.step_scheduler.specs.declared.events.Event.{Event}
use Rattle.step_scheduler.specs.declared.progress.Progress.{Progress}
use Rattle.step_scheduler.specs.near.Steps.{was_taken, is_done, events_of, progress_at}
use Rattle.step_scheduler.specs.near.Counts.{CountsSteps}
use Rattle.step_scheduler.specs.near.Slots.{AreRight, Slot}

-- the steps agree with the history, which is a run with room for all events to come
pub record IsRunBoard (job : JobView) (steps : List Progress) (history : List Event) (capacity : ℕ) : Type 0 where
  pub compiled : IsCompiled job.set
  pub fits : Fits job.set.tables (job.portfolio).holdings
  pub long : length steps ≡ length job.set.plan
  pub run : IsRun job.set.plan history
  pub taken : (k : ℕ) → is_taken history k ≡ was_taken (progress_at steps k)
  pub finished : (k : ℕ) → is_finished history k ≡ is_done (progress_at steps k)
  pub count : sum_by events_of steps ≡ length history
  pub room : 2 * length steps ≤ capacity

-- the run, the stored values, the counters of missing inputs and the list of ready steps are correct
pub record IsStepped (job : JobView) (steps : List Progress) (slots : List Slot) (history : List Event)
    (capacity : ℕ) (missing ready : List ℕ) (ready_capacity : ℕ) : Type 0 where
  pub board : IsRunBoard job steps history capacity
  pub values : AreRight job steps slots
  pub counted : CountsSteps job.set.plan steps missing ready ready_capacity
