use Rattle.std.proofs.Common.{◌++◌, ◌≡◌, length, map, reverse}
use Rattle.std.specs.Prelude.{All}
use Rattle.span_tables.specs.Holdings.{AreHoldings}
use Rattle.span_tables.specs.Net.{held_contracts}
use Rattle.span_tables.proofs.held.with_records.Given as goal

abbrev pub invariant-loop-holdings : goal.invariant-loop-holdings
invariant-loop-holdings l = record {
  in_range : All (λ x. AreHoldings l.tables.contracts x.items) l.lists.items;
  moved : map (λ x. held_contracts l.tables.contracts x.items) l.lists.items ++ reverse l.all.items
      ≡ map (λ x. held_contracts l.tables.contracts x.items) l.fn.lists.items;
}

abbrev pub decreases-loop-holdings : goal.decreases-loop-holdings
decreases-loop-holdings l = length l.lists.items
