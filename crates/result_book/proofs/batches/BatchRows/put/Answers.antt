use Rattle.std.proofs.Common.{◌≡◌, ◌++◌, ◌∷◌, ◌∙◌, [], ap, sym, subst}
use Rattle.std.specs.Arc.{arc_value}
use Rattle.result_book.specs.Books.{account_of_row, row_for}
use Rattle.result_book.proofs.BatchLemmas.{inserted_last, kept-push, once-kept, under-push}
use Rattle.result_book.specs.near.Batches.{AreUnderAccounts, kept_rows}
use Rattle.result_book.proofs.batches.BatchRows.put.Goals as goal

-- the row was appended, under its account
own : (c : goal.Joined-insert-2) → c.copied-account.result ≡ account_of_row (arc_value c.args.row)
own c = c.copied-account.ensures ∙ c.account.ensures ∙ ap account_of_row c.deref.ensures

last : (c : goal.Joined-insert-2)
    → c.insert.new.self.entries ≡ c.self.inside.by_account.entries ++ (c.copied-account.result, c.args.row) ∷ []
last c =
    let account = c.copied-account.result in
    let before = c.self.inside.by_account in
    let none = ap (λ rows. row_for rows account) c.self.view_is ∙ ap (row_for c.args.self.now) (own c) ∙ c.requires in
    c.in-Ok.ensures.entries ∙ inserted_last arc_value before account c.args.row c.self.invariant none

pub invariant_of-self : goal.invariant_of-self
invariant_of-self c =
    let under = under-push arc_value c.self.inside.by_account.entries _ c.self.invariant (own c) in
    subst (AreUnderAccounts arc_value) (sym (last c)) under

pub returns-in-Ok-clause-put : goal.returns-in-Ok-clause-put
returns-in-Ok-clause-put c =
    ap (kept_rows arc_value) (last c)
    ∙ kept-push arc_value c.self.inside.by_account.entries _
    ∙ ap (λ rows. rows ++ arc_value c.args.row ∷ []) c.self.view_is

pub returns-in-Ok-clause-once : goal.returns-in-Ok-clause-once
returns-in-Ok-clause-once c = once-kept arc_value c.insert.new.self.entries (invariant_of-self c) c.insert.ensures.unique

pub returns-clause-once : goal.returns-clause-once
returns-clause-once c =
    let under = subst (AreUnderAccounts arc_value) (sym c.in-Err.ensures.err) c.self.invariant in
    once-kept arc_value c.insert.new.self.entries under c.insert.ensures.unique
