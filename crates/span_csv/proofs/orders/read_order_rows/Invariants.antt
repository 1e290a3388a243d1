use Rattle.std.proofs.Common.{◌≡◌, length}
use Rattle.span_csv.specs.near.OrderReading.{next_order, numbered_orders}
use Rattle.span_csv.specs.near.RecordReading.{records_after}
use Rattle.span_tables.specs.near.Positions.{AreNumbered}
use Rattle.span_csv.proofs.orders.read_order_rows.Given as goal

abbrev pub invariant-loop-records : goal.invariant-loop-records
invariant-loop-records l = record {
  numbered : AreNumbered l.orders.keys l.records.items;
  each : length l.accounts.items ≡ length l.orders.keys;
  rest : records_after next_order (numbered_orders l.orders.keys l.accounts.items l.records.items) l.rows
      ≡ records_after next_order (numbered_orders l.initial.orders.keys l.initial.accounts.items l.initial.records.items)
      l.initial.rows;
}

abbrev pub decreases-loop-records : goal.decreases-loop-records
decreases-loop-records l = length l.rows
