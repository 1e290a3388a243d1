use Rattle.std.proofs.Common.{◌≡◌, map, take}
use Rattle.span_tables.specs.Tables.{month_leg}
use Rattle.span_tables.proofs.spreads.intra_of.Given as goal

abbrev pub invariant-loop-leg : goal.invariant-loop-leg
invariant-loop-leg l = l.legs.items ≡ map (month_leg l.tiers l.spread.commodity) (take l.leg-index l.spread.legs.items)
