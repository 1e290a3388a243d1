-- The rows of a batch have distinct accounts.
use Rattle.std.proofs.Common.{◌≡◌, ◌∙◌, ℕ, zero, suc, ◌<◌, Bool, true, false, cond, List, [], ◌∷◌, map, take, length, Option}
use Rattle.std.proofs.Common.{Some, None, get_or, bytes_eq, refl, sym, ap, subst, arith}
use Rattle.std.specs.List.{IsDistinct}
use Rattle.std.proofs.lemmas.Map.Keys.{IsDistinct-head, IsDistinct-tail}
use Rattle.binding.proofs.AccountLaws.{bytes_eq-flip}
use Rattle.span_tables.specs.Net.{AccountHoldings}
use Rattle.plan_compiler.specs.Compiled.{SetView}
use Rattle.result_book.specs.Books.{HasNoAccountTwice, account_of_row, row_for}
use Rattle.step_scheduler.specs.Rows.{RowView}
use Rattle.acceptance.specs.near.Accepting.{AreOnce}
use Rattle.worker_teams.specs.near.OutcomeRows.{rows_of_accounts}
use Rattle.acceptance.proofs.AccountLemmas.{IsNew}

accounts_of_rows : (set : SetView) (portfolios : List AccountHoldings)
    → map account_of_row (rows_of_accounts set portfolios) ≡ map (λ p. p.account) portfolios
accounts_of_rows set [] = refl
accounts_of_rows set (p ∷ portfolios) = ap (λ others. p.account ∷ others) (accounts_of_rows set portfolios)

-- the rows of portfolios have distinct accounts
pub rows_once : (set : SetView) (portfolios : List AccountHoldings) (rows : List RowView) → rows ≡ rows_of_accounts set portfolios
    → AreOnce portfolios → HasNoAccountTwice rows
rows_once set portfolios rows is once =
    rw (is) (subst (IsDistinct bytes_eq) (sym (accounts_of_rows set portfolios)) once)

module _ {R : Type 0} (row_of : R → RowView) where
  new_at : (account : List ℕ) (xs : List R) (i : ℕ) (d : R) → IsNew account (map account_of_row (map row_of xs)) → i < length xs
      → bytes_eq account (account_of_row (row_of (get_or xs i d))) ≡ false
  unfolding IsNew
  new_at account [] i d new lt = absurd (omega (arith, lt))
  new_at account (x ∷ xs) zero d new lt = new.0
  new_at account (x ∷ xs) (suc i) d new lt = new_at account xs i d new.1 (omega (arith, lt))

  not_first : (b : Bool) (row : RowView) (found : Option RowView) → b ≡ false → found ≡ None → cond b (Some row) found ≡ None
  not_first true row found other none = cc
  not_first false row found other none = none

  -- no row before a row has the same account
  pub none_before : (xs : List R) (i : ℕ) (d : R) → HasNoAccountTwice (map row_of xs) → i < length xs
      → row_for (map row_of (take i xs)) (account_of_row (row_of (get_or xs i d))) ≡ None
  unfolding IsNew
  none_before [] i d once lt = absurd (omega (arith, lt))
  none_before (x ∷ xs) zero d once lt = refl
  none_before (x ∷ xs) (suc i) d once lt =
      not_first (bytes_eq (account_of_row (row_of (get_or xs i d))) (account_of_row (row_of x))) (row_of x) _
      (bytes_eq-flip (account_of_row (row_of (get_or xs i d))) (account_of_row (row_of x))
      ∙ new_at (account_of_row (row_of x)) xs i d
      (IsDistinct-head bytes_eq (account_of_row (row_of x)) (map account_of_row (map row_of xs)) once) (omega (arith, lt)))
      (none_before xs i d (IsDistinct-tail bytes_eq (account_of_row (row_of x)) (map account_of_row (map row_of xs)) once)
      (omega (arith, lt)))
