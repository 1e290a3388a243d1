-- What each account holds before its order, among places of portfolios without repeats.
use Rattle.std.specs.Prelude.{◌≡◌, ◌<◌, ℕ, List, [], ◌++◌, Option, Some, None, length, map, option_and_then, slice_get, slice_index_or}
use Rattle.std.specs.Arc.{arc_value}
use Rattle.span_tables.specs.Net.{AccountHoldings}
use Rattle.span_tables.specs.declared.portfolios.Holding.{Holding}
use Rattle.binding.specs.OrderBinding.{TriedOrders}
use Rattle.plan_compiler.specs.Compiled.{SetView}
use Rattle.step_scheduler.specs.Rows.{RowView}
use Rattle.whatif.specs.near.Orders.{order_at}
use Rattle.whatif.specs.declared.befores.Befores.{Befores}

-- what a portfolio holds, or nothing if there is none
abbrev pub held_by : Option AccountHoldings → List Holding
held_by None = []
held_by (Some p) = p.holdings

-- what is held at a place, which is the index of a portfolio, or none for an account that holds nothing
abbrev pub held_at : List AccountHoldings → Option ℕ → List Holding
held_at all place = held_by (option_and_then (slice_get all) place)

-- these holdings are at the place with this slot
abbrev pub HasSlot : List AccountHoldings → List (Option ℕ) → ℕ → List Holding → Type 0
HasSlot all places slot holdings = slice_get (map (held_at all) places) slot ≡ Some holdings

-- each order with a slot has the slot of what its account holds before the order
abbrev pub AreSlots : TriedOrders → List (Option ℕ) → List ℕ → Type 0
AreSlots tried places slots =
    (i : ℕ) → i < length slots → HasSlot tried.portfolios places (slice_index_or slots i 0) (order_at tried i).before.holdings

-- places are kept, and others may be appended
pub record AreKept (before after : List (Option ℕ)) : Type 0 where
  pub more : List (Option ℕ)
  pub kept : after ≡ before ++ more

-- the row is under the parameter set, and its portfolio has these holdings
pub record IsRowOf (set : SetView) (holdings : List Holding) (r : RowView) : Type 0 where
  pub set_is : r.set ≡ set
  pub holds : r.portfolio.holdings ≡ holdings

-- each order has the row of what its account holds before the order
pub record AreBefores (set : SetView) (tried : TriedOrders) (befores : Befores) : Type 0 where
  pub every : length befores.slots.items ≡ length tried.orders
  pub in_range : (i : ℕ) → i < length tried.orders → slice_index_or befores.slots.items i 0 < length befores.rows.items
  pub each : (i : ℕ) → i < length tried.orders → (r : RowView)
      → slice_get (map arc_value befores.rows.items) (slice_index_or befores.slots.items i 0) ≡ Some r
      → IsRowOf set (order_at tried i).before.holdings r
