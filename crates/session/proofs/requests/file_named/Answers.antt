use Rattle.std.proofs.Common.{refl}
use Rattle.std.proofs.lemmas.Bool.{false_from_ne_true}
use Rattle.std.proofs.lemmas.Str.{is_utf8-from_IsUtf8, IsUtf8-from_is_utf8}
use Rattle.std.specs.Str.{is_utf8}
use Rattle.session.proofs.requests.file_named.Goals as goal

pub returns-in-Ok : goal.returns-in-Ok
returns-in-Ok c =
    let some = rw c.if-is_empty.false at c.is_empty.ensures in
    (c.in-Ok.ensures.cases.0, rw (← some, is_utf8-from_IsUtf8 c.args.text.now c.in-Ok.ensures.cases.1) refl)

pub returns-in-Err : goal.returns-in-Err
returns-in-Err c =
    let some = rw c.if-is_empty.false at c.is_empty.ensures in
    rw (
      ← some,
      false_from_ne_true (is_utf8 c.args.text.now)
          (λ is. c.in-Err.ensures.cases.0 (IsUtf8-from_is_utf8 c.args.text.now is)),
    ) refl
