use Rattle.span_tables.specs.near.ByKind.{AreByKind}
use Rattle.span_tables.proofs.kinds.by_kind.Given as goal

abbrev pub invariant-loop-record : goal.invariant-loop-record
invariant-loop-record l =
    AreByKind l.yielded l.kinds.commodities.items l.kinds.contracts.items l.kinds.tiers.items l.kinds.intras.items l.kinds.spots.items
    l.kinds.inters.items
