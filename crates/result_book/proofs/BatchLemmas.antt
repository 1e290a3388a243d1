-- Rows stored under their accounts.
use Rattle.std.proofs.Common.{◌≡◌, ℕ, Bool, true, false, cond, List, [], ◌∷◌, ◌++◌, map, Option, None, Some}
use Rattle.std.proofs.Common.{bytes_eq, refl, sym, ap, subst, ◌∙◌}
use Rattle.std.proofs.lemmas.Option.{none-some}
use Rattle.std.specs.List.{IsDistinct}
use Rattle.std.specs.Map.{keys_of, lookup}
use Rattle.std.specs.Option.{option_map}
use Rattle.indexmap.specs.IndexMap.{IndexMap, insert_entry}
use Rattle.indexmap.proofs.CallerLemmas.{insert_entry-new}
use Rattle.result_book.specs.Books.{HasNoAccountTwice, account_of_row, row_for}
use Rattle.step_scheduler.specs.Rows.{RowView}
use Rattle.result_book.specs.near.Batches.{AreUnderAccounts, kept_rows}

chosen : {A B : Type 0} (f : A → B) (b : Bool) (x : A) (y : Option A)
    → option_map f (cond b (Some x) y) ≡ cond b (Some (f x)) (option_map f y)
chosen f true x y = refl
chosen f false x y = refl

module _ {Kept : Type 0} (row_of : Kept → RowView) where
  -- the row found by an account is the row of that account
  pub row_for-kept : (es : List (List ℕ × Kept)) → AreUnderAccounts row_of es → (account : List ℕ)
      → option_map row_of (lookup (bytes_eq account) es) ≡ row_for (kept_rows row_of es) account
  row_for-kept [] under account = refl
  row_for-kept (e ∷ es) under account =
      chosen row_of (bytes_eq account e.0) e.1 (lookup (bytes_eq account) es)
      ∙ ap (λ found. cond (bytes_eq account e.0) (Some (row_of e.1)) found) (row_for-kept es under.1 account)
      ∙ ap (λ key. cond (bytes_eq account key) (Some (row_of e.1)) (row_for (kept_rows row_of es) account)) under.0

  none : (found : Option Kept) → option_map row_of found ≡ None → found ≡ None
  none None e = refl
  none (Some x) e = absurd (none-some (row_of x) (sym e))

  -- an account without a row is not a key
  absent-kept : (es : List (List ℕ × Kept)) → AreUnderAccounts row_of es → (account : List ℕ)
      → row_for (kept_rows row_of es) account ≡ None → lookup (bytes_eq account) es ≡ None
  absent-kept es under account no_row = none (lookup (bytes_eq account) es) (row_for-kept es under account ∙ no_row)

  -- an appended entry appends its row to the rows
  pub kept-push : (es : List (List ℕ × Kept)) (e : List ℕ × Kept)
      → kept_rows row_of (es ++ e ∷ []) ≡ kept_rows row_of es ++ row_of e.1 ∷ []
  kept-push [] e = refl
  kept-push (x ∷ es) e = ap (λ rows. row_of x.1 ∷ rows) (kept-push es e)

  -- after one more entry whose key is the account of its row, all rows are under their accounts
  pub under-push : (es : List (List ℕ × Kept)) (e : List ℕ × Kept) → AreUnderAccounts row_of es → e.0 ≡ account_of_row (row_of e.1)
      → AreUnderAccounts row_of (es ++ e ∷ [])
  under-push [] e under own = (own, tt)
  under-push (x ∷ es) e under own = (under.0, under-push es e under.1 own)

  keys-kept : (es : List (List ℕ × Kept)) → AreUnderAccounts row_of es → keys_of es ≡ map account_of_row (kept_rows row_of es)
  keys-kept [] under = refl
  keys-kept (e ∷ es) under =
      ap (λ key. key ∷ keys_of es) under.0 ∙ ap (λ keys. account_of_row (row_of e.1) ∷ keys) (keys-kept es under.1)

  -- if no two keys are equal, no account has two rows
  pub once-kept : (es : List (List ℕ × Kept)) → AreUnderAccounts row_of es → IsDistinct bytes_eq (keys_of es)
      → HasNoAccountTwice (kept_rows row_of es)
  once-kept es under distinct = subst (IsDistinct bytes_eq) (keys-kept es under) distinct

  -- a row of an account without a row is appended
  pub inserted_last : {S : Type 0} (m : IndexMap (List ℕ) Kept S) (account : List ℕ) (v : Kept)
      → AreUnderAccounts row_of m.entries → row_for (kept_rows row_of m.entries) account ≡ None
      → insert_entry bytes_eq m.entries account v ≡ m.entries ++ (account, v) ∷ []
  inserted_last m account v under no_row = insert_entry-new bytes_eq m account v (absent-kept m.entries under account no_row)
