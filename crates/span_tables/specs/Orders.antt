-- Order records, and the holdings of their accounts with the orders applied.
use Rattle.std.specs.Prelude.{ℕ, ◌==◌, List, map, filter, find, option_map, unwrap_or, bytes_eq, ℤ, ◌+ℤ◌, []}
use Rattle.std.specs.List.{enumerate_from}
use Rattle.span_money.specs.Numbers.{int_sum_by}
use Rattle.span_tables.specs.Names.{distinct}
use Rattle.span_tables.specs.Net.{AccountHoldings, is_held, net_of}
use Rattle.span_tables.specs.declared.portfolios.Holding.{Holding}
use Rattle.span_tables.specs.declared.records.Contract.{Contract}
use Rattle.span_tables.specs.declared.records.OrderRecord.{OrderRecord}
use Rattle.span_tables.specs.declared.records.PositionRecord.{PositionRecord}

-- the names of the orders, in the order of first appearance
abbrev pub orders_in : List OrderRecord → List (List ℕ)
orders_in records = distinct (map (λ r. r.order) records)

-- the account of an order, taken from its first record
abbrev pub account_of_order : List OrderRecord → List ℕ → List ℕ
account_of_order records order = unwrap_or (option_map (λ r. r.account) (find (λ r. bytes_eq r.order order) records)) []

-- an order record as a position record
abbrev pub as_position : OrderRecord → PositionRecord
as_position r = record { account = r.account; contract = r.contract; quantity = r.quantity }

-- the records of an order, as position records
abbrev pub positions_of_order : List OrderRecord → List ℕ → List PositionRecord
positions_of_order records order = map as_position (filter (λ r. bytes_eq r.order order) records)

-- the holdings of an account among portfolios; nothing, if it has no portfolio
abbrev pub holdings_among : List AccountHoldings → List ℕ → List Holding
holdings_among portfolios account =
    unwrap_or (option_map (λ p. p.holdings) (find (λ p. bytes_eq p.account account) portfolios)) []

-- the net quantity in a contract number among holdings
abbrev pub net_among : List Holding → ℕ → ℤ
net_among holdings c = int_sum_by (λ h. h.net) (filter (λ h. h.contract == c) holdings)

-- the net quantity of an account in a numbered contract after positions are added to its holdings
abbrev pub holding_with : List Holding → List PositionRecord → List ℕ → ℕ × Contract → Holding
holding_with holdings positions account numbered = record {
  contract = numbered.0;
  net = net_among holdings numbered.0 +ℤ net_of positions account (numbered.1).id;
}

-- the holdings of an account after positions are added to them
abbrev pub holdings_with : List Contract → List Holding → List PositionRecord → List ℕ → List Holding
holdings_with contracts holdings positions account =
    filter is_held (map (holding_with holdings positions account) (enumerate_from 0 contracts))
