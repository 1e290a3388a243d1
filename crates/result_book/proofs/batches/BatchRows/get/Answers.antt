use Rattle.std.proofs.Common.{◌∙◌, ap, Some}
use Rattle.std.specs.Arc.{arc_value}
use Rattle.std.specs.Option.{option_map}
use Rattle.result_book.specs.Books.{row_for}
use Rattle.result_book.proofs.BatchLemmas.{row_for-kept}
use Rattle.result_book.proofs.batches.BatchRows.get.Goals as goal

pub returns-in-Some : goal.returns-in-Some
returns-in-Some c =
    let found = row_for-kept arc_value c.self.inside.by_account.entries c.self.invariant c.args.account.now in
    let at = c.in-Some.ensures.value in
    ap Some c.deref.ensures ∙ ap (option_map arc_value) at ∙ found ∙ ap (λ rows. row_for rows c.args.account.now) c.self.view_is

pub returns-in-None : goal.returns-in-None
returns-in-None c =
    let found = row_for-kept arc_value c.self.inside.by_account.entries c.self.invariant c.args.account.now in
    let at = c.in-None.ensures.value in
    ap (option_map arc_value) at ∙ found ∙ ap (λ rows. row_for rows c.args.account.now) c.self.view_is
