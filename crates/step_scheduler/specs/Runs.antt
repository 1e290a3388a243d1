-- Runs of a plan.
use Rattle.std.specs.Prelude.{◌+◌, ◌≡◌, ℕ, ◌<◌, Bool, true, false, ◌||◌, ◌==◌, List, [], ◌∷◌, ◌++◌, length, map, pos}
use Rattle.std.specs.Prelude.{All, ◌⊎◌, ⊤, if◌then◌else◌}
use Rattle.plan_ir.specs.Apply.{value_on}
use Rattle.plan_ir.specs.Plans.{StepView, inputs_at, op_at}
use Rattle.plan_ir.specs.declared.values.Value.{Value}
use Rattle.plan_ir.specs.declared.values.Value.TheVariants as value
use Rattle.step_scheduler.specs.Jobs.{JobView}
use Rattle.step_scheduler.specs.declared.events.Event.{Event}
use Rattle.step_scheduler.specs.declared.events.Event.TheVariants.{Take, Finish}

-- ---- past events

-- the event takes step k
abbrev pub takes : Event → ℕ → Bool
takes (Take j) k = j == k
takes (Finish j) k = false

-- the event finishes step k
abbrev pub finishes : Event → ℕ → Bool
finishes (Take j) k = false
finishes (Finish j) k = j == k

-- step k was taken
abbrev pub is_taken : List Event → ℕ → Bool
is_taken [] k = false
is_taken (e ∷ es) k = takes e k || is_taken es k

-- step k was finished
abbrev pub is_finished : List Event → ℕ → Bool
is_finished [] k = false
is_finished (e ∷ es) k = finishes e k || is_finished es k

-- the number of times that step k was taken
abbrev pub times_taken : List Event → ℕ → ℕ
times_taken [] k = 0
times_taken (e ∷ es) k = (if takes e k then 1 else 0) + times_taken es k

-- the number of times that step k was finished
abbrev pub times_finished : List Event → ℕ → ℕ
times_finished [] k = 0
times_finished (e ∷ es) k = (if finishes e k then 1 else 0) + times_finished es k

-- no step was taken twice or finished twice
pub record IsOnce (history : List Event) : Type 0 where
  pub taken : (k : ℕ) → times_taken history k ≡ (if is_taken history k then 1 else 0)
  pub finished : (k : ℕ) → times_finished history k ≡ (if is_finished history k then 1 else 0)

-- the number of listed steps that are not finished
abbrev pub unfinished : List Event → List ℕ → ℕ
unfinished history [] = 0
unfinished history (i ∷ is) = (if is_finished history i then 0 else 1) + unfinished history is

-- ---- allowed next events

-- step k may be taken: it was not taken before, and its inputs are finished
pub record IsReady (plan : List StepView) (history : List Event) (k : ℕ) : Type 0 where
  pub in_range : k < length plan
  pub fresh : is_taken history k ≡ false
  pub fed : All (λ i. is_finished history i ≡ true) (inputs_at plan k)

-- step k was taken, and is not finished
pub record IsUnderWay (history : List Event) (k : ℕ) : Type 0 where
  pub taken : is_taken history k ≡ true
  pub unfinished : is_finished history k ≡ false

-- the event is allowed after the history
abbrev pub IsLawful : List StepView → List Event → Event → Type 0
IsLawful plan history (Take k) = IsReady plan history k
IsLawful plan history (Finish k) = IsUnderWay history k

-- each of the later events is allowed after the events before it
abbrev pub IsRunAfter : List StepView → List Event → List Event → Type 0
IsRunAfter plan before [] = ⊤
IsRunAfter plan before (e ∷ es) = IsLawful plan before e × IsRunAfter plan (before ++ e ∷ []) es

-- the history is a run of the plan
abbrev pub IsRun : List StepView → List Event → Type 0
IsRun plan history = IsRunAfter plan [] history

-- step k can go on: it may be taken, or it was taken and is not finished
abbrev pub CanGoOn : List StepView → List Event → ℕ → Type 0
CanGoOn plan history k = IsReady plan history k ⊎ IsUnderWay history k

-- every step is finished
abbrev pub AllFinished : List StepView → List Event → Type 0
AllFinished plan history = (k : ℕ) → k < length plan → is_finished history k ≡ true

-- step k was finished after it was taken
pub record IsTakenThenFinished (history : List Event) (k : ℕ) : Type 0 where
  pub before : List Event
  pub after : List Event
  pub is : history ≡ before ++ Finish k ∷ after
  pub taken : is_taken before k ≡ true

-- step k was taken once, and then finished once
pub record IsDoneOnce (history : List Event) (k : ℕ) : Type 0 where
  pub taken : times_taken history k ≡ 1
  pub finished : times_finished history k ≡ 1
  pub in_order : IsTakenThenFinished history k

-- ---- the values of steps

-- the values of steps after an event: a finished step gets the value of its operation on the values of its inputs
abbrev pub values_after : JobView → (ℕ → Value) → Event → ℕ → Value
values_after job values (Take j) k = values k
values_after job values (Finish j) k =
    if j == k
    then value_on job.set.tables (job.portfolio).holdings (op_at job.set.plan j) (map values (inputs_at job.set.plan j))
    else values k

-- the values of steps after a list of events
abbrev pub values_along : JobView → (ℕ → Value) → List Event → ℕ → Value
values_along job values [] = values
values_along job values (e ∷ es) = values_along job (values_after job values e) es

-- the values that a run gives to steps
abbrev pub run_values : JobView → List Event → ℕ → Value
run_values job history = values_along job (λ _. value.Total (pos 0)) history
