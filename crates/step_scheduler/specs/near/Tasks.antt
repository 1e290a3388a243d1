-- The invariant of a task.
use Rattle.std.specs.Prelude.{◌≡◌, ℕ, map, IfSome}
use Rattle.std.specs.Arc.{arc_value}
use Rattle.step_scheduler.specs.declared.tasks.Given.{Given}
use Rattle.step_scheduler.specs.Jobs.{IsTask, JobView, TaskView, meaning_at}

-- step k of the job, with the given inputs
abbrev pub task_with : JobView → ℕ → Given → TaskView
task_with job k given = record { job = job; step = k; inputs = map arc_value given.inputs.items }

-- the given inputs are the meanings of the step's inputs, and a value that was found is the step's own meaning
pub record IsTaskWith (job : JobView) (k : ℕ) (given : Given) : Type 0 where
  pub is_task : IsTask (task_with job k given)
  pub right : IfSome given.found (λ v. arc_value v ≡ meaning_at job k)
