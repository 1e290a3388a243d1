use Rattle.std.proofs.Common.{◌≡◌, map, take}
use Rattle.span_tables.specs.Tables.{commodity_leg}
use Rattle.span_tables.proofs.spreads.inter_of.Given as goal

abbrev pub invariant-loop-leg : goal.invariant-loop-leg
invariant-loop-leg l = l.legs.items ≡ map (commodity_leg l.commodities) (take l.leg-index l.spread.legs.items)
