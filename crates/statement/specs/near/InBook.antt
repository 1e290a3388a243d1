-- The rows that are put in a book.
use Rattle.std.specs.Prelude.{◌≡◌, ◌+◌, ℕ, List, take}
use Rattle.result_book.specs.Books.{BookView, rows_of}
use Rattle.step_scheduler.specs.Rows.{RowView}

-- one more batch is open, and it has the first rows, in their order
pub record ArePartlyInBook (before after : BookView) (rows : List RowView) : Type 0 where
  pub opened : after.opened ≡ before.opened + 1
  pub count : ℕ
  pub first_rows : rows_of after (before.opened + 1) ≡ take count rows
