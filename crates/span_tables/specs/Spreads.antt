-- Accepted spreads, as contracts see them.
use Rattle.std.specs.Prelude.{ℕ, List}
use Rattle.span_tables.specs.declared.records.CommodityLeg.{CommodityLeg}
use Rattle.span_tables.specs.declared.legs.MonthLeg.{MonthLeg}

-- an intercommodity spread: its priority, its credit rate in basis points, and its legs
pub record InterSpread : Type 0 where
  pub priority : ℕ
  pub basis_points : ℕ
  pub legs : List CommodityLeg

-- an intracommodity spread: its priority, its rate in minor units a spread, and its legs
pub record IntraSpread : Type 0 where
  pub priority : ℕ
  pub rate : ℕ
  pub legs : List MonthLeg
