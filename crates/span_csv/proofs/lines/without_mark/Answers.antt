use Rattle.std.proofs.Common.{◌∙◌, sym}
use Rattle.std.proofs.lemmas.List.{take_rest}
use Rattle.span_csv.proofs.PlainLines.{mark_taken}
use Rattle.span_csv.proofs.lines.without_mark.Goals as goal

pub returns-then-starts_with : goal.returns-then-starts_with
returns-then-starts_with c =
    let marked = sym c.starts_with.ensures.value ∙ c.if-starts_with.true in
    take_rest c.args.bytes.now 3 ∙ (rw marked at (mark_taken c.args.bytes.now))
