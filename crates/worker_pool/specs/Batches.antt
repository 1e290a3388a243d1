-- The jobs of a batch, and the tasks and results that belong to a batch.
use Rattle.std.specs.Prelude.{◌≡◌, ℕ, ◌+◌, ◌<◌, true, Some, List, [], ◌∷◌, All, length, slice_get}
use Rattle.span_tables.specs.Holdings.{fits}
use Rattle.span_tables.specs.Net.{AccountHoldings}
use Rattle.plan_compiler.specs.Compiled.{SetView}
use Rattle.step_scheduler.specs.Jobs.{FinishedView, JobView, TaskView}

-- the portfolio fits the tables of the parameter set
abbrev pub FitsSet : SetView → AccountHoldings → Type 0
FitsSet set portfolio = fits (length set.tables.contracts) portfolio.holdings ≡ true

-- all portfolios fit the tables of the parameter set
abbrev pub AllFit : SetView → List AccountHoldings → Type 0
AllFit set portfolios = All (FitsSet set) portfolios

-- the job of an account at an index of its batch
abbrev pub job_at : SetView → AccountHoldings → ℕ → JobView
job_at set portfolio place = record { set = set; portfolio = portfolio; place = place }

-- the jobs of these portfolios under a parameter set, with indices from `place` on
abbrev pub jobs_from : SetView → ℕ → List AccountHoldings → List JobView
jobs_from set place [] = []
jobs_from set place (portfolio ∷ portfolios) = job_at set portfolio place ∷ jobs_from set (place + 1) portfolios

-- a batch: the jobs of these portfolios under a parameter set
abbrev pub jobs_of : SetView → List AccountHoldings → List JobView
jobs_of set portfolios = jobs_from set 0 portfolios

-- a task is of a batch: its step is in its job's plan, and its job is the batch's job at the index that it names
pub record IsTaskOf (batch : List JobView) (task : TaskView) : Type 0 where
  pub in_range : task.step < length task.job.set.plan
  pub job : slice_get batch task.job.place ≡ Some task.job

-- a result is of a batch: its step is in its job's plan, and its job is the batch's job at the index that it names
pub record IsResultOf (batch : List JobView) (finished : FinishedView) : Type 0 where
  pub in_range : finished.step < length finished.job.set.plan
  pub job : slice_get batch finished.job.place ≡ Some finished.job
