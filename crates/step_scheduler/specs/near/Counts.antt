-- Counters of missing inputs, and the list of ready steps.
use Rattle.std.specs.Prelude.{◌≡◌, ℕ, ◌+◌, ◌<◌, ◌≤◌, ◌==◌, Bool, true, List, [], ◌∷◌, length, All, slice_index, if◌then◌else◌}
use Rattle.plan_ir.specs.Plans.{StepView, inputs_at}
use Rattle.plan_compiler.specs.near.Beginnings.{times}
use Rattle.step_scheduler.specs.declared.progress.Progress.{Progress}
use Rattle.step_scheduler.specs.near.Steps.{was_taken, is_done, progress_at}

-- the number of listed steps that have no value
abbrev pub open_inputs : List Progress → List ℕ → ℕ
open_inputs steps [] = 0
open_inputs steps (i ∷ is) = (if is_done (progress_at steps i) then 0 else 1) + open_inputs steps is

-- the number of times that a step is in the list of ready steps: once if it was not taken and misses no input
abbrev pub ready_times : Bool → ℕ → ℕ
ready_times taken missing = if taken then 0 else (if missing == 0 then 1 else 0)

-- the counters are correct, and the list contains each step that can start exactly once
pub record CountsSteps (plan : List StepView) (steps : List Progress) (missing ready : List ℕ) (capacity : ℕ) : Type 0 where
  pub long : length missing ≡ length plan
  pub missing_is : (k : ℕ) → k < length plan → slice_index missing k ≡ open_inputs steps (inputs_at plan k)
  pub fed : (k : ℕ) → k < length plan → was_taken (progress_at steps k) ≡ true → slice_index missing k ≡ 0
  pub in_range : All (λ k. k < length plan) ready
  pub listed : (k : ℕ) → k < length plan
      → times k ready ≡ ready_times (was_taken (progress_at steps k)) (slice_index missing k)
  pub room : length plan ≤ capacity

-- the number of times that a step is added to the list: once if it was counted down to 0 missing inputs
abbrev pub freed_times : ℕ → ℕ → ℕ
freed_times users missing = if users == 0 then 0 else (if missing == 0 then 1 else 0)

-- the users can be counted down: each is a step that misses an input, none occurs twice, and the list has room for all
pub record CanBeReleased (users missing ready : List ℕ) (capacity : ℕ) : Type 0 where
  pub in_range : All (λ u. u < length missing) users
  pub once : (k : ℕ) → times k users ≤ 1
  pub positive : (k : ℕ) → 0 < times k users → 0 < slice_index missing k
  pub room : length ready + length users ≤ capacity

-- the counters and the list after the users were counted down
pub record Released (users missing missing' ready ready' : List ℕ) (capacity capacity' : ℕ) : Type 0 where
  pub long : length missing' ≡ length missing
  pub left : (k : ℕ) → slice_index missing' k + times k users ≡ slice_index missing k
  pub freed : (k : ℕ) → times k ready' ≡ times k ready + freed_times (times k users) (slice_index missing' k)
  pub in_range : (n : ℕ) → n ≡ length missing → All (λ u. u < n) ready → All (λ u. u < n) ready'
  pub room : length ready' ≤ length ready + length users
  pub same_room : capacity' ≡ capacity
