-- What contracts see of a row.
use Rattle.span_tables.specs.Net.{AccountHoldings}
use Rattle.plan_compiler.specs.Compiled.{SetView}
use Rattle.step_scheduler.specs.Jobs.{JobView}

-- a compiled parameter set, and the portfolio of an account that was margined under it
pub record RowView : Type 0 where
  pub set : SetView
  pub portfolio : AccountHoldings

-- the row of a job
abbrev pub row_of : JobView → RowView
row_of job = record { set = job.set; portfolio = job.portfolio }
