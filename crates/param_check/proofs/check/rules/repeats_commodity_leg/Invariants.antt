use Rattle.std.proofs.Common.{◌≡◌, bytes_eq, drop}
use Rattle.span_tables.specs.Names.{has_repeat}
use Rattle.param_check.proofs.check.rules.repeats_commodity_leg.Given as goal

abbrev pub invariant-loop-index : goal.invariant-loop-index
invariant-loop-index l =
    has_repeat (λ a b. bytes_eq a.commodity b.commodity) (drop l.index l.legs)
    ≡ has_repeat (λ a b. bytes_eq a.commodity b.commodity) l.legs
