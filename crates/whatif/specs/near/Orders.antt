-- The orders of a file by index, the lines of a range of them, and whether the portfolios after the orders fit a parameter set.
use Rattle.std.specs.Prelude.{ℕ, List, [], All, flat_map, slice_index_or}
use Rattle.std.specs.List.{range_with_len}
use Rattle.span_tables.specs.Tables.{AcceptedTables}
use Rattle.binding.specs.OrderBinding.{TriedOrder, TriedOrders}
use Rattle.plan_compiler.specs.Compiled.{SetView}
use Rattle.worker_pool.specs.Batches.{FitsSet}
use Rattle.whatif.specs.Whatif.{order_text}

-- the order for an index past the end
abbrev pub no_order : TriedOrder
no_order = record { order = []; before = record { account = []; holdings = [] }; after = record { account = []; holdings = [] } }

-- the order at an index
abbrev pub order_at : TriedOrders → ℕ → TriedOrder
order_at tried i = slice_index_or tried.orders i no_order

-- the portfolio of each account after its order fits the tables of the parameter set
abbrev pub OrdersFit : SetView → TriedOrders → Type 0
OrdersFit set tried = All (λ o. FitsSet set o.after) tried.orders

-- the lines of `count` orders from an index on
abbrev pub orders_text : AcceptedTables → TriedOrders → ℕ → ℕ → List ℕ
orders_text t tried first count = flat_map (λ i. order_text t (order_at tried i)) (range_with_len first count)
