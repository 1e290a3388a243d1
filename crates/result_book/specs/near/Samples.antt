-- A small book for test vectors.
use Rattle.std.specs.Prelude.{◌∷◌, [], codes}
use Rattle.plan_compiler.specs.Compiled.{SetView}
use Rattle.result_book.specs.Books.{BookView}
use Rattle.step_scheduler.specs.Rows.{RowView}

-- the row of an account X without holdings
abbrev pub row_of_x : SetView → RowView
row_of_x set = record { set = set; portfolio = record { account = codes "X"; holdings = [] } }

-- two batches; the second has that row
abbrev pub one_row : SetView → BookView
one_row set = record { opened = 2; batches = (2, row_of_x set ∷ []) ∷ [] }
