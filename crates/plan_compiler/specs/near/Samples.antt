-- A parameter file for the test vectors of plans.
use Rattle.std.specs.Prelude.{List, [], ◌∷◌, codes}
use Rattle.span_tables.specs.near.Samples.{commodity, contract, future_values, set, spread}
use Rattle.span_tables.specs.declared.records.ProductKind.TheVariants as product
use Rattle.span_tables.specs.declared.records.Record.{Record}
use Rattle.span_tables.specs.declared.records.Record.TheVariants as record_of

-- a parameter set with two commodities, a future of each, and a spread of one against the other
abbrev pub two_commodities : List Record
two_commodities =
    set (codes "D1")
    ∷ commodity (codes "AA")
    ∷ commodity (codes "BB")
    ∷ record_of.Contract (contract product.Future (codes "FA") (codes "AA") 202503 future_values)
    ∷ record_of.Contract (contract product.Future (codes "FB") (codes "BB") 202503 future_values)
    ∷ spread 1 5000 (codes "AA") (codes "BB")
    ∷ []
