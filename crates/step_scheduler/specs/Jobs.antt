-- What contracts see of a job, a task and a finished step.
use Rattle.std.specs.Prelude.{◌≡◌, ℕ, ◌<◌, List, length, Option, IfSome}
use Rattle.span_tables.specs.Net.{AccountHoldings}
use Rattle.plan_ir.specs.declared.values.Value.{Value}
use Rattle.plan_compiler.specs.Compiled.{SetView, input_meanings, step_meaning}

-- an account's portfolio under a compiled parameter set, and its index in its batch
pub record JobView : Type 0 where
  pub set : SetView
  pub portfolio : AccountHoldings
  pub place : ℕ

-- the meaning of step k of the job
abbrev pub meaning_at : JobView → ℕ → Value
meaning_at job k = step_meaning job.set (job.portfolio).holdings k

-- the meanings of the inputs of step k of the job, in order
abbrev pub inputs_for : JobView → ℕ → List Value
inputs_for job k = input_meanings job.set (job.portfolio).holdings k

-- a step of a job, with the values of its inputs
pub record TaskView : Type 0 where
  pub job : JobView
  pub step : ℕ
  pub inputs : List Value

-- the step is in the job's plan, and the inputs are their meanings
pub record IsTask (task : TaskView) : Type 0 where
  pub in_range : task.step < length task.job.set.plan
  pub fed : task.inputs ≡ inputs_for task.job task.step

-- a step of a job with its value, or without one if memory ran out
pub record FinishedView : Type 0 where
  pub job : JobView
  pub step : ℕ
  pub value : Option Value

-- the step is in the job's plan, and its value, if any, is its meaning
pub record IsFinishedStep (finished : FinishedView) : Type 0 where
  pub in_range : finished.step < length finished.job.set.plan
  pub right : IfSome finished.value (λ v. v ≡ meaning_at finished.job finished.step)
