use Rattle.std.proofs.Common.{◌≡◌, map, take}
use Rattle.span_tables.specs.near.Gathered.{holdings_in}
use Rattle.span_tables.proofs.held.holdings_by_commodity.Given as goal

abbrev pub invariant-loop-holding : goal.invariant-loop-holding
invariant-loop-holding l =
    map (λ v. v.items) l.lists.items
    ≡ map (λ c. holdings_in l.tables.contracts (take l.holding-index l.holding-items) c.id) l.tables.commodities
