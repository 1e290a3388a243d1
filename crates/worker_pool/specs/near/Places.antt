-- The outcomes of a batch's jobs, each at the index of its job.
use Rattle.std.specs.Prelude.{◌-◌, ℕ, List}
use Rattle.std.specs.List.{AllZip}
use Rattle.step_scheduler.specs.Jobs.{JobView}
use Rattle.worker_pool.specs.Outcomes.{IsOutcome}
use Rattle.worker_pool.specs.declared.outcomes.Outcome.{Outcome}

-- the outcomes of a batch's accounts while it runs, and how many accounts have not ended
pub record OutcomesView : Type 0 where
  pub list : List Outcome
  pub left : ℕ

-- one more account has ended
abbrev pub one_ended : OutcomesView → OutcomesView
one_ended o = record o { left = o.left - 1 }

-- as many outcomes as jobs, each for the job at the same index
abbrev pub AreOutcomesOf : List JobView → List Outcome → Type 0
AreOutcomesOf jobs outcomes = AllZip (λ job outcome. IsOutcome job.set job.portfolio outcome) jobs outcomes
