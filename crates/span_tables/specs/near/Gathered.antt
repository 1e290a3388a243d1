-- The holdings of a commodity, as contract numbers with their nets.
use Rattle.std.specs.Prelude.{ℕ, List, [], filter, option_map, unwrap_or, slice_get, bytes_eq}
use Rattle.span_tables.specs.Accepted.{commodity_number}
use Rattle.span_tables.specs.Tables.{AcceptedTables}
use Rattle.span_tables.specs.declared.portfolios.Holding.{Holding}
use Rattle.span_tables.specs.declared.records.Contract.{Contract}

-- the id of the commodity of a holding's contract
abbrev pub commodity_held : List Contract → Holding → List ℕ
commodity_held contracts h = unwrap_or (option_map (λ x. x.commodity) (slice_get contracts h.contract)) []

-- the holdings of a commodity
abbrev pub holdings_in : List Contract → List Holding → List ℕ → List Holding
holdings_in contracts holdings commodity = filter (λ h. bytes_eq (commodity_held contracts h) commodity) holdings

-- the commodity number of the contract with a number, or 0 if there is no such contract
abbrev pub number_of : AcceptedTables → ℕ → ℕ
number_of t contract =
    unwrap_or (option_map (λ x. commodity_number t.commodities x.commodity) (slice_get t.contracts contract)) 0

-- the commodity number of a holding's contract
abbrev pub number_held : AcceptedTables → Holding → ℕ
number_held t h = number_of t h.contract
