use Rattle.std.proofs.Common.{◌∙◌, ◌+◌, sym, length}
use Rattle.std.proofs.lemmas.List.{take_rest}
use Rattle.span_csv.proofs.PlainLines.{behind_comma}
use Rattle.span_csv.proofs.plain_positions.behind_field.Goals as goal

pub returns-then-starts_with : goal.returns-then-starts_with
returns-then-starts_with c =
    let begins = sym c.starts_with.ensures.value ∙ c.if-starts_with.true in
    rw (take_rest c.args.bytes.now (length c.args.field.now + 1))
    (behind_comma c.args.bytes.now c.args.field.now begins c.if-end-bytes.true c.if-bytes-end-eq44.true)
