-- The contract view of a result store (book), its invariant, and the conditions under which a row is rejected.
use Rattle.std.specs.Prelude.{◌≡◌, ℕ, ◌<◌, ◌^◌, Bool, false, ◌&&◌, List, [], map, nat_eq, nat_le, nat_lt}
use Rattle.std.specs.Prelude.{Option, None, Some, bytes_eq, if◌then◌else◌, is_some}
use Rattle.std.specs.List.{IsDistinct, find}
use Rattle.std.specs.Map.{lookup}
use Rattle.std.specs.Option.{unwrap_or}
use Rattle.step_scheduler.specs.Rows.{RowView}
use Rattle.result_book.specs.declared.books.BookFault.{BookFault}
use Rattle.result_book.specs.declared.books.BookFault.TheVariants as fault

-- the number of opened batches, and the rows of each batch with rows, by batch number
pub record BookView : Type 0 where
  pub opened : ℕ
  pub batches : List (ℕ × List RowView)

-- the rows of a batch number among batches, none if there is no batch with this number
abbrev pub rows_under : List (ℕ × List RowView) → ℕ → List RowView
rows_under batches number = unwrap_or (lookup (nat_eq number) batches) []

-- the rows of a batch, in the order in which they were added
abbrev pub rows_of : BookView → ℕ → List RowView
rows_of book number = rows_under book.batches number

-- the number is the number of an opened batch, from 1 up
abbrev pub is_opened : BookView → ℕ → Bool
is_opened book number = nat_lt 0 number && nat_le number book.opened

-- the account of a row
abbrev pub account_of_row : RowView → List ℕ
account_of_row row = row.portfolio.account

-- the row of an account among rows
abbrev pub row_for : List RowView → List ℕ → Option RowView
row_for rows account = find (λ row. bytes_eq account (account_of_row row)) rows

-- no account has two rows
abbrev pub HasNoAccountTwice : List RowView → Type 0
HasNoAccountTwice rows = IsDistinct bytes_eq (map account_of_row rows)

-- A book has at most as many batches as there are numbers. There are no rows of a batch that was not opened, and no
-- account has two rows in a batch.
pub record IsBook (book : BookView) : Type 0 where
  pub few : book.opened < 2 ^ 64
  pub opened_only : (number : ℕ) → is_opened book number ≡ false → rows_of book number ≡ []
  pub once : (number : ℕ) → HasNoAccountTwice (rows_of book number)

-- the reason why a row of an account is not added to a batch, apart from out of memory
abbrev pub put_fault : BookView → ℕ → List ℕ → Option BookFault
put_fault book number account =
    if is_opened book number
    then (if is_some (row_for (rows_of book number) account) then Some fault.AlreadyThere else None)
    else Some fault.NoSuchBatch
