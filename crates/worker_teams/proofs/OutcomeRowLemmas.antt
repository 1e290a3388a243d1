-- The rows of outcomes.
use Rattle.std.proofs.Common.{◌≡◌, ◌∙◌, List, [], ◌∷◌, ◌++◌, refl, sym, ap}
use Rattle.std.specs.Arc.{arc_value}
use Rattle.std.specs.declared.alloc.Global.{Global}
use Rattle.std.specs.declared.sync.Arc.{Arc}
use Rattle.span_tables.specs.Net.{AccountHoldings}
use Rattle.plan_compiler.specs.Compiled.{SetView}
use Rattle.step_scheduler.specs.Rows.{RowView}
use Rattle.worker_pool.specs.Outcomes.{AreOutcomes}
use Rattle.worker_pool.specs.declared.outcomes.Outcome.{Outcome}
use Rattle.worker_pool.specs.declared.outcomes.Outcome.TheVariants.{Margined, NoMemory}
use Rattle.worker_teams.specs.near.OutcomeRows.{rows_of_accounts, AreRows}

-- appending an outcome appends its row
pub rows_more : (outcomes : List Outcome) (rows : List RowView) (row : Arc RowView Global) → AreRows outcomes rows
    → AreRows (outcomes ++ Margined row ∷ []) (rows ++ arc_value row ∷ [])
rows_more [] [] row all = (refl, tt)
rows_more [] (r ∷ rows) row all = absurd all
rows_more (Margined first ∷ outcomes) [] row all = absurd all
rows_more (Margined first ∷ outcomes) (r ∷ rows) row all = (all.0, rows_more outcomes rows row all.1)
rows_more (NoMemory account ∷ outcomes) rows row all = absurd all

-- the rows of a batch are the rows of its portfolios
pub rows_of_batch : (set : SetView) (portfolios : List AccountHoldings) (outcomes : List Outcome) (rows : List RowView)
    → AreOutcomes set portfolios outcomes → AreRows outcomes rows → rows ≡ rows_of_accounts set portfolios
rows_of_batch set [] [] [] are all = refl
rows_of_batch set [] [] (r ∷ rows) are all = absurd all
rows_of_batch set [] (o ∷ outcomes) rows are all = absurd are
rows_of_batch set (p ∷ portfolios) [] rows are all = absurd are
rows_of_batch set (p ∷ portfolios) (Margined row ∷ outcomes) [] are all = absurd all
rows_of_batch set (p ∷ portfolios) (Margined row ∷ outcomes) (r ∷ rows) are all =
    ap (λ x. x ∷ rows) (sym all.0 ∙ are.0) ∙ ap (λ xs. record { set = set; portfolio = p } ∷ xs)
    (rows_of_batch set portfolios outcomes rows are.1 all.1)
rows_of_batch set (p ∷ portfolios) (NoMemory account ∷ outcomes) rows are all = absurd all
