-- The rows of portfolios under a parameter set, and the rows of the outcomes of a batch.
use Rattle.std.specs.Prelude.{List, map, ◌≡◌, ⊤, [], ◌∷◌}
use Rattle.span_tables.specs.Net.{AccountHoldings}
use Rattle.plan_compiler.specs.Compiled.{SetView}
use Rattle.step_scheduler.specs.Rows.{RowView}
use Rattle.std.specs.Arc.{arc_value}
use Rattle.worker_pool.specs.declared.outcomes.Outcome.{Outcome}
use Rattle.worker_pool.specs.declared.outcomes.Outcome.TheVariants.{Margined, NoMemory}

-- the row of each portfolio under a parameter set
abbrev pub rows_of_accounts : SetView → List AccountHoldings → List RowView
rows_of_accounts set portfolios = map (λ p. record { set = set; portfolio = p }) portfolios

-- each outcome has its row
abbrev pub AreRows : List Outcome → List RowView → Type 0
AreRows [] [] = ⊤
AreRows [] (r ∷ rows) = ⊥
AreRows (Margined row ∷ outcomes) [] = ⊥
AreRows (Margined row ∷ outcomes) (r ∷ rows) = (arc_value row ≡ r) × AreRows outcomes rows
AreRows (NoMemory account ∷ outcomes) rows = ⊥
