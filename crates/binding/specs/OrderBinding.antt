-- Which orders fit the accepted tables and the portfolios of accounts, and the holdings of each account without and
-- with its order.
use Rattle.std.specs.Prelude.{ℕ, Bool, not, ◌&&◌, nat_lt, List, map, length, Option, bytes_eq, nat_abs, Result, true, false}
use Rattle.std.specs.List.{list_any, position_or_len}
use Rattle.span_tables.specs.Faults.{first_of, ok_unless}
use Rattle.span_tables.specs.Net.{AccountHoldings}
use Rattle.span_tables.specs.Orders.{account_of_order, holdings_among, holdings_with, net_among, orders_in, positions_of_order}
use Rattle.span_tables.specs.declared.portfolios.Holding.{Holding}
use Rattle.span_tables.specs.declared.records.Contract.{Contract}
use Rattle.span_tables.specs.declared.records.OrderRecord.{OrderRecord}
use Rattle.binding.specs.Binding.{first_unfit_by, owner_faults}
use Rattle.binding.specs.declared.faults.OrderBindFault.{OrderBindFault}
use Rattle.binding.specs.declared.faults.OrderBindFault.TheVariants as fault
use Rattle.span_tables.specs.declared.limits.TheConstants.{MAX_NET, MAX_HELD}

-- ---- the holdings of an account

-- the holdings of the account of an order without it
abbrev pub holdings_before : List AccountHoldings → List OrderRecord → List ℕ → List Holding
holdings_before portfolios records order = holdings_among portfolios (account_of_order records order)

-- the holdings of the account of an order with it; its nets may be of any size
abbrev pub holdings_after : List Contract → List AccountHoldings → List OrderRecord → List ℕ → List Holding
holdings_after contracts portfolios records order =
    holdings_with contracts (holdings_before portfolios records order) (positions_of_order records order) (account_of_order records order)

-- an evaluated order: its name, and the portfolio of its account without it and with it
pub record TriedOrder : Type 0 where
  pub order : List ℕ
  pub before : AccountHoldings
  pub after : AccountHoldings

-- orders that are evaluated on the portfolios of accounts
pub record TriedOrders : Type 0 where
  pub portfolios : List AccountHoldings
  pub orders : List TriedOrder

-- the order of a name
abbrev pub tried_order : List Contract → List AccountHoldings → List OrderRecord → List ℕ → TriedOrder
tried_order contracts portfolios records order = record {
  order = order;
  before = record { account = account_of_order records order; holdings = holdings_before portfolios records order };
  after = record { account = account_of_order records order; holdings = holdings_after contracts portfolios records order };
}

-- ---- faults

-- the record is of a contract that the tables do not have
abbrev pub is_of_unknown : List Contract → OrderRecord → Bool
is_of_unknown contracts r = not (list_any (λ x. bytes_eq x.id r.contract) contracts)

-- the record is the first of its order and contract
abbrev pub is_first_of_leg : List OrderRecord → OrderRecord → Bool
is_first_of_leg earlier r = not (list_any (λ x. bytes_eq x.order r.order && bytes_eq x.contract r.contract) earlier)

-- the record is the first of its order
abbrev pub is_first_of_order : List OrderRecord → OrderRecord → Bool
is_first_of_order earlier r = not (list_any (λ x. bytes_eq x.order r.order) earlier)

-- the net of the account in a contract, with the order, is over the limit, long or short
abbrev pub net_exceeds_with : List Contract → List AccountHoldings → List OrderRecord → List ℕ → List ℕ → Bool
net_exceeds_with contracts portfolios all order contract =
    nat_lt MAX_NET (nat_abs (net_among (holdings_after contracts portfolios all order)
    (position_or_len (λ x. bytes_eq x.id contract) contracts)))

-- the net with the order is over the limit in the record's contract
abbrev pub exceeds_net_with : List Contract → List AccountHoldings → List OrderRecord → OrderRecord → Bool
exceeds_net_with contracts portfolios all r = net_exceeds_with contracts portfolios all r.order r.contract

-- the account holds more contracts with the order than it may
abbrev pub exceeds_held_with : List Contract → List AccountHoldings → List OrderRecord → OrderRecord → Bool
exceeds_held_with contracts portfolios all r = nat_lt MAX_HELD (length (holdings_after contracts portfolios all r.order))

-- the first order record with a fault, as a fault with the record's number and order
abbrev pub first_unfit_order : (ℕ → List ℕ → OrderBindFault) → (List OrderRecord → OrderRecord → Bool)
    → List OrderRecord → Option OrderBindFault
first_unfit_order fault unfit all = first_unfit_by (λ (r : OrderRecord). r.order) fault unfit all

-- The first fault of orders: an unknown contract in any record, otherwise an account's net with an order out of range,
-- otherwise too many contracts held with an order. The owner of a record is its order. Orders do not affect each other.
unfoldable pub order_bind_fault : List Contract → List AccountHoldings → List OrderRecord → Option OrderBindFault
order_bind_fault contracts portfolios all = first_of
    (owner_faults (λ r. r.order) (λ r. r.contract) fault.UnknownContract fault.NetOutOfRange fault.TooManyHeld contracts
    (net_exceeds_with contracts portfolios all) (λ order. nat_lt MAX_HELD (length (holdings_after contracts portfolios all order))) all)

-- the orders in the order of first appearance, evaluated on portfolios, or their fault
unfoldable pub orders_bound : List Contract → List AccountHoldings → List OrderRecord → Result TriedOrders OrderBindFault
orders_bound contracts portfolios all =
    ok_unless (order_bind_fault contracts portfolios all)
    (record { portfolios = portfolios; orders = map (tried_order contracts portfolios all) (orders_in all) })

-- the fault is out of memory, which the definition leaves open
abbrev pub is_memory : OrderBindFault → Bool
is_memory fault.OutOfMemory = true
is_memory _ = false
