-- Order records stored as position records under their orders' names, together with the account of each order.
use Rattle.std.specs.Prelude.{ℕ, List, [], map, slice_index_or, bytes_eq}
use Rattle.std.specs.List.{position_or_len}
use Rattle.span_tables.specs.Net.{accounts_of}
use Rattle.span_tables.specs.declared.records.OrderRecord.{OrderRecord}
use Rattle.span_tables.specs.declared.records.PositionRecord.{PositionRecord}

-- an order record as a position record that has the order's name as its account
abbrev pub under_order : OrderRecord → PositionRecord
under_order r = record { account = r.order; contract = r.contract; quantity = r.quantity }

-- the order record that a stored position record represents, given the names of the orders and the account of each
abbrev pub order_record : List (List ℕ) → List (List ℕ) → PositionRecord → OrderRecord
order_record orders accounts p = record {
  order = p.account;
  account = slice_index_or accounts (position_or_len (bytes_eq p.account) orders) [];
  contract = p.contract;
  quantity = p.quantity;
}

-- the order records that stored position records represent, given the account of each order
abbrev pub order_records : List (List ℕ) → List PositionRecord → List OrderRecord
order_records accounts positions = map (order_record (accounts_of positions) accounts) positions
