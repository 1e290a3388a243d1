use Rattle.std.proofs.Common.{◌≡◌, ◌++◌, flat_map, map, take}
use Rattle.span_money.specs.LineFields.{field}
use Rattle.span_money.specs.near.Fields.{field_text}
use Rattle.span_money.proofs.line_fields.push_fields.Given as goal

abbrev pub invariant-loop-shown : goal.invariant-loop-shown
invariant-loop-shown l = l.out.items ≡ l.fn.out.items ++ flat_map field (map field_text (take l.shown-index l.fields))
