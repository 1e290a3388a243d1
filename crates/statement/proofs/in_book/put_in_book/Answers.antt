use Rattle.std.proofs.Common.{rules, ◌≡◌, ◌∙◌, ℕ, Err, List, true, None, take, get_or, refl, sym, ap, inr, arith}
use Rattle.std.specs.Prelude.{nat_le, nat_lt}
use Rattle.std.specs.Arc.{arc_value}
use Rattle.std.proofs.lemmas.Bool.Decides.{nat_tests}
use Rattle.std.proofs.lemmas.List.{take-map}
use Rattle.result_book.specs.Books.{BookView, put_fault, row_for}
use Rattle.step_scheduler.specs.Rows.{RowView}
use Rattle.result_book.specs.declared.books.BookFault.TheVariants as fault
use Rattle.statement.proofs.BatchRowLemmas.{none_before}
use Rattle.statement.proofs.in_book.put_in_book.Invariants.{AreInBook}
use Rattle.statement.specs.near.InBook.{ArePartlyInBook}
use Rattle.statement.proofs.in_book.put_in_book.Goals as goal

-- a book that has the first rows has a part of the rows
partly : (before now : BookView) (batch i : ℕ) (rows first_rows : List RowView) → first_rows ≡ take i rows
    → AreInBook before now batch first_rows → ArePartlyInBook before now rows
partly before now batch i rows first_rows are state = record {
  opened = state.opened;
  count = i;
  first_rows = rw (← state.batch_is) (state.in_book ∙ are);
}

-- a book that has the first rows accepts the next row
not_refused : (before now : BookView) (batch : ℕ) (rows : List RowView) (account : List ℕ) → AreInBook before now batch rows
    → row_for rows account ≡ None → put_fault now batch account ≡ None
not_refused before now batch rows account state new =
    let some : nat_lt 0 batch ≡ true = grind (arith, nat_tests, state.batch_is) in
    let few : nat_le batch now.opened ≡ true = grind (arith, nat_tests, state.batch_is, state.opened) in
    rw (some, few, state.in_book, new) refl

pub returns-in_err-row-clause-refused : goal.returns-in_err-row-clause-refused
returns-in_err-row-clause-refused c =
    let is : c.from_residual-in_err-row.result ≡ Err fault.OutOfMemory = search rules in
    rw (is) (inr (
      refl,
      partly c.args.book.now c.loop-row.book c.in_ok-batch.batch c.loop-row.row-index _ _
          (sym (take-map arc_value c.loop-row.row-index c.args.rows.items)) c.loop-row.invariant,
    ))

pub returns-in-Err-clause-refused : goal.returns-in-Err-clause-refused
returns-in-Err-clause-refused c =
    let item = c.row-item.result in
    let clone : arc_value c.in_ok-row.row ≡ arc_value item = search rules in
    let row : arc_value c.in_ok-row.row ≡ arc_value (get_or c.args.rows.items c.loop-row.row-index item) =
    clone ∙ rw c.deref-row-items.ensures.value at (ap arc_value c.row-item.is) in
    let none = not_refused c.args.book.now c.loop-row.book c.in_ok-batch.batch _ _ c.loop-row.invariant
    (none_before arc_value c.args.rows.items c.loop-row.row-index item c.requires (omega (arith, c.loop-row-test.true))) in
    let reason : c.in-Err.refused.fault ≡ fault.OutOfMemory = rw (row, none) at c.in-Err.ensures.fault in
    rw (c.in-Err.ensures.unchanged.1) (inr (
      reason,
      partly c.args.book.now c.loop-row.book c.in_ok-batch.batch c.loop-row.row-index
          _ _ (sym (take-map arc_value c.loop-row.row-index c.args.rows.items)) c.loop-row.invariant,
    ))
