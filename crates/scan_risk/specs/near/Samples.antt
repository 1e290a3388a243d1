-- Contracts for the test vectors.
use Rattle.std.specs.Prelude.{[], ◌∷◌, ◌++◌, codes, ℤ, pos, neg_ℤ}
use Rattle.std.specs.List.{repeat}
use Rattle.span_tables.specs.near.Samples.{contract, future_values}
use Rattle.span_tables.specs.declared.records.ProductKind.TheVariants as product
use Rattle.span_tables.specs.declared.records.Contract.{Contract}
use Rattle.span_tables.specs.Net.{HeldContract}
use Rattle.span_tables.specs.declared.limits.TheConstants.{MAX_ARRAY_VALUE}

-- a future with delta 1, scale 1, and 400 for each third of the scan range
abbrev pub future : Contract
future = contract product.Future (codes "FA") (codes "AA") 202503 future_values

-- the largest contract: the largest gain in scenarios 1 and 2, and the largest loss in the others
abbrev pub largest : Contract
largest = contract product.Future (codes "L") (codes "AA") 202503
    (repeat 2 (neg_ℤ (pos MAX_ARRAY_VALUE) ∷ []) ++ repeat 14 (pos MAX_ARRAY_VALUE ∷ []))

-- a net quantity of a contract
abbrev pub held : ℤ → Contract → HeldContract
held net contract = record { contract = contract; net = net }
