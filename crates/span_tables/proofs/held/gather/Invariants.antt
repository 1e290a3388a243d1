use Rattle.std.proofs.Common.{◌≡◌, take}
use Rattle.span_tables.specs.Tables.{commodity_id}
use Rattle.span_tables.specs.near.Gathered.{holdings_in}
use Rattle.span_tables.proofs.held.gather.Given as goal

abbrev pub invariant-loop-holding : goal.invariant-loop-holding
invariant-loop-holding l =
    l.held.items ≡ holdings_in l.tables.contracts (take l.holding-index l.holding-items) (commodity_id l.tables l.commodity)
