use Rattle.std.proofs.Common.{◌==◌, Some, ap, arith, length}
use Rattle.std.proofs.lemmas.List.{length-map}
use Rattle.std.proofs.lemmas.List.Splits.{length-slice_split}
use Rattle.session.proofs.FormLemmas.{by_word}
use Rattle.session.proofs.requests.read_request.Goals as goal

pub first_word-requires : goal.first_word-requires
first_word-requires c =
    let fields = c.in_ok-fields.fields.items in
    omega (
      arith,
      length-map fields (λ field. field.now),
      ap length c.in_ok-fields.ensures,
      length-slice_split (λ b. b == 44) c.args.line.now,
    )

pub returns-in-Some : goal.returns-in-Some
returns-in-Some c =
    let named = rw (c.deref.ensures.value, c.in_ok-fields.ensures) at c.in-Some.ensures in
    rw (by_word c.args.line.now (Some c.in-Some.word) c.if-line-gt-MAX_LINE.false named)
    c.word_request.ensures
