-- The content of a batch: its rows, each stored under its account.
use Rattle.std.specs.Prelude.{◌≡◌, ℕ, List, map}
use Rattle.std.specs.List.{AllByRecursion}
use Rattle.std.specs.Map.{values_of}
use Rattle.result_book.specs.Books.{account_of_row}
use Rattle.step_scheduler.specs.Rows.{RowView}

module _ {Kept : Type 0} (row_of : Kept → RowView) where
  -- the rows, in order
  abbrev pub kept_rows : List (List ℕ × Kept) → List RowView
  kept_rows entries = map row_of (values_of entries)

  -- each row is stored under its account
  abbrev pub AreUnderAccounts : List (List ℕ × Kept) → Type 0
  AreUnderAccounts entries = AllByRecursion (λ entry. entry.0 ≡ account_of_row (row_of entry.1)) entries
