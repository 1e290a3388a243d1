use Rattle.std.proofs.Common.{◌≡◌, map, take}
use Rattle.span_tables.specs.Tables.{inter_spread}
use Rattle.span_tables.proofs.spreads.inters_with_numbers.Given as goal

abbrev pub invariant-loop-spread : goal.invariant-loop-spread
invariant-loop-spread l = l.inters.items ≡ map (inter_spread l.commodities) (take l.spread-index l.spreads)
