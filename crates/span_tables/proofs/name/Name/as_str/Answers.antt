use Rattle.std.proofs.Common.{subst, sym}
use Rattle.std.specs.Str.{IsUtf8}
use Rattle.span_tables.proofs.NameTexts.{name_is_text}
use Rattle.span_tables.proofs.name.Name.as_str.Goals as goal

pub returns-in-Err : goal.returns-in-Err
returns-in-Err c =
    let is_text = name_is_text c.args.self.now c.as_bytes.ensures.is_name in
    absurd (c.in-Err.ensures.cases.0 (subst IsUtf8 (sym c.as_bytes.ensures.value) is_text))
