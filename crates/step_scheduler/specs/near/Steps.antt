-- The progress of the steps of a board.
use Rattle.std.specs.Prelude.{◌≡◌, ℕ, ◌<◌, Bool, true, false, List, length, All, slice_index_or}
use Rattle.plan_ir.specs.Plans.{StepView, inputs_at}
use Rattle.step_scheduler.specs.declared.progress.Progress.{Progress}
use Rattle.step_scheduler.specs.declared.progress.Progress.TheVariants.{Waiting, Taken, Done}

-- the step was taken
abbrev pub was_taken : Progress → Bool
was_taken Waiting = false
was_taken Taken = true
was_taken Done = true

-- the step got its value
abbrev pub is_done : Progress → Bool
is_done Waiting = false
is_done Taken = false
is_done Done = true

-- the number of events of the step so far
abbrev pub events_of : Progress → ℕ
events_of Waiting = 0
events_of Taken = 1
events_of Done = 2

-- the progress of step k
abbrev pub progress_at : List Progress → ℕ → Progress
progress_at steps k = slice_index_or steps k Waiting

-- each of the inputs got its value
abbrev pub AreDone : List Progress → List ℕ → Type 0
AreDone steps inputs = All (λ i. is_done (progress_at steps i) ≡ true) inputs

-- step k can be handed out
pub record CanStart (plan : List StepView) (steps : List Progress) (k : ℕ) : Type 0 where
  pub in_range : k < length plan
  pub waits : was_taken (progress_at steps k) ≡ false
  pub fed : AreDone steps (inputs_at plan k)
