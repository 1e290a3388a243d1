use Rattle.std.proofs.Common.{◌≡◌, ◌++◌, flat_map, map, take}
use Rattle.std.specs.Fmt.{signed_decimal}
use Rattle.span_money.specs.LineFields.{field}
use Rattle.span_money.proofs.line_fields.push_numbers.Given as goal

abbrev pub invariant-loop-n : goal.invariant-loop-n
invariant-loop-n l = l.out.items ≡ l.fn.out.items ++ flat_map field (map signed_decimal (take l.n-index l.numbers))
