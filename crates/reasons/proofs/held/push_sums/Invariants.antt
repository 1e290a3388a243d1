use Rattle.std.proofs.Common.{◌≡◌, ◌++◌, flat_map, map, take}
use Rattle.std.specs.Fmt.{signed_decimal}
use Rattle.std.specs.Prelude.{codes}
use Rattle.span_money.specs.LineFields.{field}
use Rattle.span_money.specs.near.Fields.{field_text}
use Rattle.reasons.proofs.held.push_sums.Given as goal

abbrev pub invariant-loop-sum : goal.invariant-loop-sum
invariant-loop-sum l =
    l.out.items ≡ (l.fn.out.items ++ codes "SUMS" ++ flat_map field (map field_text l.ids))
    ++ flat_map field (map signed_decimal (take l.sum-index l.sums))
