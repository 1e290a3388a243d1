use Rattle.std.proofs.Common.{◌∙◌, Some, ap, sym, nat_eq}
use Rattle.std.proofs.lemmas.Map.Steps.{set_value_same}
use Rattle.std.proofs.lemmas.Result.{IfErr-weaker}
use Rattle.result_book.proofs.books.put_row.Goals as goal

-- the borrowed rows are unchanged, and so are all batches
pub returns-in-Some-clause-refused : goal.returns-in-Some-clause-refused
returns-in-Some-clause-refused c =
    IfErr-weaker c.put.result _ _
    (λ back h.
    let still = sym c.in-Some.ensures.value ∙ ap Some (sym h.1) in
    let written = (c.get_mut.follows.holds c.put.new.self).0 in
    (h.0, written ∙ set_value_same (nat_eq c.args.batch) c.args.batches.now.entries c.put.new.self still))
    c.put.ensures.refused
