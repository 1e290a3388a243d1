use Rattle.std.proofs.Common.{◌≡◌, ◌&&◌, drop}
use Rattle.std.specs.Prelude.{◌==◌}
use Rattle.span_tables.specs.Names.{has_repeat}
use Rattle.span_tables.specs.Rules.{same_side}
use Rattle.param_check.proofs.check.rules.repeats_tier_leg.Given as goal

abbrev pub invariant-loop-index : goal.invariant-loop-index
invariant-loop-index l =
    has_repeat (λ a b. (a.tier == b.tier) && same_side a.side b.side) (drop l.index l.legs)
    ≡ has_repeat (λ a b. (a.tier == b.tier) && same_side a.side b.side) l.legs
