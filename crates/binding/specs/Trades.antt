-- Trades on the holdings of one account.
use Rattle.std.specs.Prelude.{ℕ, nat_abs, nat_lt, List, [], ◌∷◌, map, length, Option, Result, Ok, Err, bytes_eq}
use Rattle.std.specs.List.{position_or_len}
use Rattle.span_tables.specs.Faults.{first_of, ok_unless}
use Rattle.span_tables.specs.Net.{AccountHoldings}
use Rattle.span_tables.specs.Orders.{holdings_with, net_among}
use Rattle.span_tables.specs.declared.limits.TheConstants.{MAX_HELD, MAX_NET}
use Rattle.span_tables.specs.declared.portfolios.Holding.{Holding}
use Rattle.span_tables.specs.declared.records.Contract.{Contract}
use Rattle.span_tables.specs.declared.records.OrderRecord.{OrderRecord}
use Rattle.span_tables.specs.declared.records.PositionRecord.{PositionRecord}
use Rattle.binding.specs.Binding.{owner_faults}
use Rattle.binding.specs.OrderBinding.{TriedOrders}
use Rattle.binding.specs.declared.faults.BindFault.{BindFault}
use Rattle.binding.specs.declared.faults.BindFault.TheVariants as fault
use Rattle.binding.specs.declared.faults.OrderBindFault.{OrderBindFault}
use Rattle.binding.specs.declared.faults.OrderBindFault.TheVariants as order
use Rattle.binding.specs.declared.trades.Trade.{Trade}

-- ---- trades on an account

-- a trade as a position record of an account
abbrev pub booked : List ℕ → Trade → PositionRecord
booked account trade = record { account = account; contract = trade.contract; quantity = trade.quantity }

-- the holdings of an account after trades; its nets may be of any size
abbrev pub held_after : List Contract → List Holding → List ℕ → List Trade → List Holding
held_after contracts held account trades = holdings_with contracts held (map (booked account) trades) account

-- The first fault of trades: an unknown contract in any trade, otherwise the account's net after them out of range,
-- otherwise too many contracts held after them. All trades are of one account.
unfoldable pub trade_fault : List Contract → List Holding → List ℕ → List Trade → Option BindFault
trade_fault contracts held account trades =
    let after = held_after contracts held account trades in
    first_of (owner_faults (λ trade. account) (λ trade. trade.contract)
    fault.UnknownContract fault.NetOutOfRange fault.TooManyHeld contracts
    (λ owner contract. nat_lt MAX_NET (nat_abs (net_among after (position_or_len (λ x. bytes_eq x.id contract) contracts))))
    (λ owner. nat_lt MAX_HELD (length after)) trades)

-- the portfolio of an account after trades, or their fault
unfoldable pub traded : List Contract → List Holding → List ℕ → List Trade → Result AccountHoldings BindFault
traded contracts held account trades =
    ok_unless (trade_fault contracts held account trades)
    (record { account = account; holdings = held_after contracts held account trades })

-- ---- trades as an order

-- a trade as a record of an order of an account
abbrev pub order_trade : List ℕ → List ℕ → Trade → OrderRecord
order_trade order account trade =
    record { order = order; account = account; contract = trade.contract; quantity = trade.quantity }

-- a fault of trades, as a fault of the order with these trades
abbrev pub order_fault_of : List ℕ → BindFault → OrderBindFault
order_fault_of name (fault.UnknownContract at account) = order.UnknownContract at name
order_fault_of name (fault.NetOutOfRange at account) = order.NetOutOfRange at name
order_fault_of name (fault.TooManyHeld at account) = order.TooManyHeld at name
order_fault_of name fault.OutOfMemory = order.OutOfMemory

-- the result of trades on the holdings of an account among portfolios, as the one order of an order file
abbrev pub as_order : List AccountHoldings → List ℕ → List Holding → Result AccountHoldings BindFault → Result TriedOrders OrderBindFault
as_order portfolios name held (Ok after) = Ok (record {
  portfolios = portfolios;
  orders = record { order = name; before = record { account = after.account; holdings = held }; after = after } ∷ [];
})
as_order portfolios name held (Err e) = Err (order_fault_of name e)
