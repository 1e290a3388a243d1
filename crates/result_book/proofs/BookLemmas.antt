-- Lemmas about the accounts of rows, and about a book without rows.
use Rattle.std.proofs.Common.{◌≡◌, ◌↔◌, ℕ, Bool, true, false, ◌||◌, cond, List, [], ◌∷◌, map, Contains}
use Rattle.std.proofs.Common.{◌<◌, ◌^◌, Option, Some, is_some, bytes_eq, refl, sym, ap, ◌∙◌}
use Rattle.std.proofs.lemmas.Map.Views.{list_any-from_Contains, Contains-from_any}
use Rattle.std.proofs.lemmas.Slice.Eq.{bytes_eq-Decides}
use Rattle.std.specs.Cmp.{decided}
use Rattle.std.specs.List.{IsDistinct, list_any}
use Rattle.result_book.specs.Books.{IsBook, account_of_row, row_for}
use Rattle.step_scheduler.specs.Rows.{RowView}

pub book-without_rows : (opened : ℕ) → opened < 2 ^ 64 → IsBook (record { opened = opened; batches = [] })
unfolding IsDistinct
book-without_rows opened few = record {
  few = few;
  opened_only = λ number closed. refl;
  once = λ number. tt;
}

chosen : (b : Bool) (row : RowView) (found : Option RowView) → is_some (cond b (Some row) found) ≡ b || is_some found
chosen true row found = refl
chosen false row found = refl

row_for-list_any : (rows : List RowView) (account : List ℕ)
    → is_some (row_for rows account) ≡ list_any (bytes_eq account) (map account_of_row rows)
row_for-list_any [] account = refl
row_for-list_any (row ∷ rows) account =
    chosen (bytes_eq account (account_of_row row)) row (row_for rows account)
    ∙ ap (λ any. bytes_eq account (account_of_row row) || any) (row_for-list_any rows account)

-- a row is found for an account exactly if it is one of the accounts of the rows
pub account_there : (rows : List RowView) (account : List ℕ)
    → (is_some (row_for rows account) ≡ true) ↔ Contains (map account_of_row rows) account
account_there rows account =
    let accounts = map account_of_row rows in
    let same : is_some (row_for rows account) ≡ list_any (bytes_eq account) accounts = row_for-list_any rows account in (
      λ found. Contains-from_any (λ x y e. (bytes_eq-Decides x y).0 e) account accounts (sym same ∙ found),
      λ there. same ∙ list_any-from_Contains (decided bytes_eq bytes_eq-Decides) account accounts there,
    )
