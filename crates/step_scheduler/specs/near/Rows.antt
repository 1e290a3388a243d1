-- The invariant of a row.
use Rattle.std.specs.Prelude.{◌≡◌, List, length}
use Rattle.span_tables.specs.Tables.{AcceptedTables}
use Rattle.span_tables.specs.declared.portfolios.Holding.{Holding}
use Rattle.plan_ir.specs.Figures.{option_value_of, total_to}
use Rattle.step_scheduler.specs.Jobs.{JobView}
use Rattle.step_scheduler.specs.declared.held_figures.HeldFigures.{HeldFigures}
use Rattle.step_scheduler.specs.near.Figures.{AreHeldFigures}
use Rattle.step_scheduler.specs.declared.rows.Totals.{Totals}

-- the total and the option value of an account with these holdings
pub record AreTotals (t : AcceptedTables) (holdings : List Holding) (totals : Totals) : Type 0 where
  pub total : totals.total ≡ total_to t holdings (length t.commodities)
  pub option_value : totals.option_value ≡ option_value_of t holdings

-- the figures and the totals of the job's portfolio under its parameter set
pub record IsRow (job : JobView) (figures : HeldFigures) (totals : Totals) : Type 0 where
  pub figures_are : AreHeldFigures job.set.tables (job.portfolio).holdings figures
  pub totals_are : AreTotals job.set.tables (job.portfolio).holdings totals
