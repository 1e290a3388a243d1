use Rattle.std.proofs.Common.{◌≡◌, ◌≢◌, ◌+◌, ℕ, List, map, take}
use Rattle.std.specs.Arc.{arc_value}
use Rattle.result_book.specs.Books.{BookView, rows_of}
use Rattle.step_scheduler.specs.Rows.{RowView}
use Rattle.statement.proofs.in_book.put_in_book.Given as goal

-- the new batch has the rows so far, and all other batches are unchanged
pub record AreInBook (before now : BookView) (batch : ℕ) (rows : List RowView) : Type 0 where
  pub opened : now.opened ≡ before.opened + 1
  pub batch_is : batch ≡ before.opened + 1
  pub in_book : rows_of now batch ≡ rows
  pub others : (n : ℕ) → n ≢ before.opened + 1 → rows_of now n ≡ rows_of before n

abbrev pub invariant-loop-row : goal.invariant-loop-row
invariant-loop-row l = AreInBook l.fn.book l.book l.batch (map arc_value (take l.row-index l.fn.rows.items))
