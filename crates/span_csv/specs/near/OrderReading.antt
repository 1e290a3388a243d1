-- Orders read one after another: each record as a position under its order's name, and the account that it gives the
-- order.
use Rattle.std.specs.Prelude.{ℕ, ◌+◌, Bool, false, not, ◌&&◌, ◌==◌, if◌then◌else◌, List, []}
use Rattle.std.specs.Prelude.{◌∷◌, ◌++◌, length, map, find, slice_index_or, bytes_eq, Result, Ok, Err}
use Rattle.std.specs.Option.{option_map_or}
use Rattle.span_tables.specs.near.Orders.{under_order}
use Rattle.span_tables.specs.declared.limits.TheConstants.{MAX_ORDERS}
use Rattle.span_tables.specs.declared.records.NumberedPosition.{NumberedPosition}
use Rattle.span_tables.specs.declared.records.OrderRecord.{OrderRecord}
use Rattle.span_tables.specs.declared.records.PositionRecord.{PositionRecord}
use Rattle.span_csv.specs.Records.{Fields, text_at}
use Rattle.span_csv.specs.near.NumberedReading.{next_position}
use Rattle.span_csv.specs.declared.orders.TheConstants.{ORDER_NAMES}
use Rattle.span_csv.specs.declared.faults.PositionFault.{PositionFault}
use Rattle.span_csv.specs.declared.faults.PositionFault.TheVariants as position
use Rattle.span_csv.specs.declared.faults.OrderFault.{OrderFault}
use Rattle.span_csv.specs.declared.faults.OrderFault.TheVariants as fault

-- the order fault for a position fault of the record under its order's name
abbrev pub as_order_fault : PositionFault → OrderFault
as_order_fault (position.FieldCount at) = fault.FieldCount at
as_order_fault (position.BadName at) = fault.BadName at
as_order_fault (position.BadNumber at) = fault.BadNumber at
as_order_fault (position.OutOfRange at) = fault.OutOfRange at
as_order_fault (position.TooManyAccounts at) = fault.TooManyOrders at
as_order_fault position.OutOfMemory = fault.OutOfMemory

-- the first earlier record of the order has another account
abbrev pub has_another_account : List OrderRecord → List ℕ → List ℕ → Bool
has_another_account earlier order account =
    option_map_or (λ first. not (bytes_eq first.account account)) (find (λ r. bytes_eq r.order order) earlier) false

-- the order record for a position under the order's name
abbrev pub with_account : List ℕ → PositionRecord → OrderRecord
with_account account p = record { order = p.account; account = account; contract = p.contract; quantity = p.quantity }

-- the order record after earlier ones, from the position under its order's name, or its fault
abbrev pub order_behind : ℕ → List OrderRecord → List ℕ → Result PositionRecord PositionFault → Result OrderRecord OrderFault
order_behind at earlier account (Err e) = Err (as_order_fault e)
order_behind at earlier account (Ok p) =
    if has_another_account earlier p.account account then Err (fault.SecondAccount at) else Ok (with_account account p)

-- the order record of a row after earlier records, or its fault
unfoldable pub next_order : List OrderRecord → Fields → Result OrderRecord OrderFault
next_order earlier r =
    order_behind (length earlier + 1) earlier (text_at r 1) (next_position ORDER_NAMES MAX_ORDERS (map under_order earlier) r)

-- ---- records that refer to their orders by number

-- the order record for a numbered one, from the orders' names and accounts
abbrev pub numbered_order : List (List ℕ) → List (List ℕ) → NumberedPosition → OrderRecord
numbered_order orders accounts p = record {
  order = slice_index_or orders p.account [];
  account = slice_index_or accounts p.account [];
  contract = p.contract;
  quantity = p.quantity;
}

-- the order records for numbered ones
abbrev pub numbered_orders : List (List ℕ) → List (List ℕ) → List NumberedPosition → List OrderRecord
numbered_orders orders accounts records = map (numbered_order orders accounts) records

-- the order at an index is known and has another account
abbrev pub is_of_another : List (List ℕ) → ℕ → List ℕ → Bool
is_of_another accounts place account = not (place == length accounts) && not (bytes_eq (slice_index_or accounts place []) account)

-- the account of each order after one more record, whose order has this index: the first record of an order sets its
-- account
abbrev pub accounts_with : List (List ℕ) → ℕ → List ℕ → List (List ℕ)
accounts_with accounts place account = if place == length accounts then accounts ++ account ∷ [] else accounts
