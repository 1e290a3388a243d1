-- Records for the test vectors of faults.
use Rattle.std.specs.Prelude.{ℕ, List, [], ◌∷◌, codes, ℤ, pos}
use Rattle.std.specs.List.{repeat}
use Rattle.span_tables.specs.near.Samples.{contract}
use Rattle.span_tables.specs.declared.records.ProductKind.TheVariants as product
use Rattle.span_tables.specs.declared.limits.TheConstants.{SCENARIOS}
use Rattle.span_tables.specs.Net.{AccountHoldings}
use Rattle.span_tables.specs.declared.records.Contract.{Contract}
use Rattle.span_tables.specs.declared.records.OrderRecord.{OrderRecord}
use Rattle.span_tables.specs.declared.records.PositionRecord.{PositionRecord}

-- a contract of this id
abbrev pub contract_of : List ℕ → Contract
contract_of id = contract product.Future id (codes "AA") 202503 (repeat SCENARIOS (pos 0 ∷ []))

-- a position
abbrev pub position_of : List ℕ → List ℕ → ℤ → PositionRecord
position_of account contract quantity = record { account = account; contract = contract; quantity = quantity }

-- a record of an order
abbrev pub order_of : List ℕ → List ℕ → List ℕ → ℤ → OrderRecord
order_of order account contract quantity = record { order = order; account = account; contract = contract; quantity = quantity }

-- an account with a holding in one contract, given by its number
abbrev pub portfolio_of : List ℕ → ℕ → ℤ → AccountHoldings
portfolio_of account contract net = record { account = account; holdings = record { contract = contract; net = net } ∷ [] }
