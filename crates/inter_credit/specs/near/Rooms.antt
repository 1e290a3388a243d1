-- The units that the legs of a spread can still use.
use Rattle.std.specs.Prelude.{◌≡◌, ℕ, ◌*◌, ◌<◌, ◌≤◌, ◌==◌, false, List, length, All}
use Rattle.span_tables.specs.Names.{has_repeat}
use Rattle.span_tables.specs.declared.sides.Direction.{Direction}
use Rattle.span_tables.specs.declared.records.CommodityLeg.{CommodityLeg}
use Rattle.inter_credit.specs.Credits.{leg_side}
use Rattle.inter_credit.specs.declared.commodity_state.CommodityState.{CommodityState}

-- the commodity of each leg has room for n spreads in a direction, and no two legs have the same commodity
pub record HaveRoom (d : Direction) (n : ℕ) (legs : List CommodityLeg) (states : List CommodityState) : Type 0 where
  pub known : All (λ leg. leg.commodity < length states) legs
  pub room : All (λ leg. n * leg.ratio ≤ leg_side d leg states) legs
  pub apart : has_repeat (λ a b. a.commodity == b.commodity) legs ≡ false
