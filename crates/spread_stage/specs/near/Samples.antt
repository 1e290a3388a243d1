-- Contracts and spreads that the test vectors use.
use Rattle.std.specs.Prelude.{ℕ, [], ◌∷◌, codes, ℤ, neg_ℤ, pos}
use Rattle.std.specs.List.{repeat}
use Rattle.span_tables.specs.near.Samples.{contract}
use Rattle.span_tables.specs.declared.records.ProductKind.TheVariants as product
use Rattle.span_tables.specs.declared.sides.Side.TheVariants as side
use Rattle.span_tables.specs.declared.limits.TheConstants.{MAX_DELTA, MAX_SCALE}
use Rattle.span_tables.specs.declared.records.Contract.{Contract}
use Rattle.span_tables.specs.Net.{HeldContract}
use Rattle.spread_stage.specs.declared.months.MonthUnits.{MonthUnits}
use Rattle.span_tables.specs.declared.records.Intra.{Intra}
use Rattle.span_tables.specs.declared.records.Spot.{Spot}

-- a future of the month, with delta 1, scale 1, and a risk array of 0
abbrev pub future : ℕ → Contract
future month = contract product.Future (codes "FA") (codes "AA") month (repeat 16 (pos 0 ∷ []))

-- a contract with the largest delta and the largest scale
abbrev pub largest : Contract
largest = record (future 202503) { delta = neg_ℤ (pos MAX_DELTA); scale = MAX_SCALE }

-- a contract held with a net quantity
abbrev pub held : ℤ → Contract → HeldContract
held net contract = record { contract = contract; net = net }

-- a month with its units
abbrev pub month_units : ℕ → ℤ → MonthUnits
month_units month units = record { month = month; units = units }

-- a spread of the months before 202505 against the later ones, with this ratio on both legs
abbrev pub calendar_spread : ℕ → Intra
calendar_spread ratio = record {
  priority = 1;
  rate = 250;
  legs = record { first = 202501; last = 202504; side = side.A; ratio = ratio }
      ∷ record { first = 202505; last = 202512; side = side.B; ratio = ratio } ∷ [];
}

-- the spot month 202503
abbrev pub march : Spot
march = record { commodity = codes "AA"; month = 202503; spread_rate = 10; outright_rate = 20 }
