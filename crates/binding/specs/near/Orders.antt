-- Stored orders: the account's index among the portfolios, and the entries that the order adds to nets.
use Rattle.std.specs.Prelude.{◌<◌, ℕ, List, [], ◌++◌, length, map, option_map, position, slice_index_or, unwrap_or, zip}
use Rattle.std.specs.Prelude.{Option, bytes_eq, ⊤}
use Rattle.span_tables.specs.Holdings.{ArePortfolio}
use Rattle.span_tables.specs.Net.{AccountHoldings}
use Rattle.span_tables.specs.declared.portfolios.Holding.{Holding}
use Rattle.binding.specs.OrderBinding.{TriedOrder}
use Rattle.binding.specs.near.Ledgers.{held_entries}
use Rattle.binding.specs.near.Sums.{kept_holdings}
use Rattle.binding.specs.declared.ledgers.Entry.{Entry}
use Rattle.binding.specs.declared.faults.BindFault.{BindFault}
use Rattle.binding.specs.declared.faults.BindFault.TheVariants as bind
use Rattle.binding.specs.declared.faults.OrderBindFault.{OrderBindFault}
use Rattle.binding.specs.declared.faults.OrderBindFault.TheVariants as fault
use Rattle.binding.specs.declared.orders.kept_orders.KeptOrder.{KeptOrder}
use Rattle.binding.specs.declared.orders.kept_orders.OrderAccount.{OrderAccount}
use Rattle.binding.specs.declared.orders.kept_orders.OrderAccount.TheVariants as account

-- ---- a stored order

-- the index of an account among portfolios, the first one if it has several portfolios
abbrev pub place_among : List AccountHoldings → List ℕ → Option ℕ
place_among portfolios name = position (λ p. bytes_eq p.account name) portfolios

-- the account of an order, from its index among the portfolios
abbrev pub account_at : Option ℕ → List ℕ → OrderAccount
account_at place name = unwrap_or (option_map account.Known place) (account.New name)

-- the stored order of a name, an account and entries
abbrev pub kept_as : List AccountHoldings → (List ℕ × List ℕ) × List Entry → KeptOrder
kept_as portfolios o = record { name = o.0.0; account = account_at (place_among portfolios o.0.1) o.0.1; entries = o.1 }

-- the stored orders of lists of names, accounts and entries
abbrev pub all_kept_as : List AccountHoldings → List (List ℕ) → List (List ℕ) → List (List Entry) → List KeptOrder
all_kept_as portfolios names accounts ledgers = map (kept_as portfolios) (zip (zip names accounts) ledgers)

-- an account without holdings
abbrev pub holding_nothing : List ℕ → AccountHoldings
holding_nothing name = record { account = name; holdings = [] }

-- the portfolio of the account of an order without it
abbrev pub portfolio_before : List AccountHoldings → OrderAccount → AccountHoldings
portfolio_before portfolios (account.Known place) = slice_index_or portfolios place (holding_nothing [])
portfolio_before portfolios (account.New name) = holding_nothing name

-- the stored nets of an order's account with the order, in the given number of contracts
abbrev pub kept_after : ℕ → List AccountHoldings → KeptOrder → List Holding
kept_after contracts portfolios o =
    kept_holdings contracts (held_entries (portfolio_before portfolios o.account).holdings ++ o.entries)

-- the order that a stored order represents
abbrev pub kept_order : ℕ → List AccountHoldings → KeptOrder → TriedOrder
kept_order contracts portfolios o =
    let before = portfolio_before portfolios o.account in
    record {
      order = o.name;
      before = before;
      after = record { account = before.account; holdings = kept_after contracts portfolios o };
    }

-- the account has a portfolio at its index
abbrev pub HasPlace : List AccountHoldings → OrderAccount → Type 0
HasPlace portfolios (account.Known place) = place < length portfolios
HasPlace portfolios (account.New name) = ⊤

-- the portfolio of a stored order's account with the order can be made
pub record IsKept (contracts : ℕ) (portfolios : List AccountHoldings) (o : KeptOrder) : Type 0 where
  pub place : HasPlace portfolios o.account
  pub fits : ArePortfolio (kept_after contracts portfolios o)

-- ---- faults

-- a fault of order records that were read as positions under the orders' names, as a fault of orders
abbrev pub order_fault : BindFault → OrderBindFault
order_fault (bind.UnknownContract at name) = fault.UnknownContract at name
order_fault (bind.NetOutOfRange at name) = fault.NetOutOfRange at name
order_fault (bind.TooManyHeld at name) = fault.TooManyHeld at name
order_fault bind.OutOfMemory = fault.OutOfMemory
