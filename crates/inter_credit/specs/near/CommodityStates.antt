-- The invariant of each commodity in an intercommodity state.
use Rattle.std.specs.Prelude.{◌+◌, ◌*◌, ◌≤◌, nat_abs}
use Rattle.span_tables.specs.declared.limits.TheConstants.{MAX_BASIS_POINTS, MAX_PRICE2, MAX_UNITS}
use Rattle.span_tables.specs.Sides.{IsLeftOf}
use Rattle.inter_credit.specs.declared.commodity_state.CommodityState.{CommodityState}

-- the net delta and price risk are in range, the remaining delta is a part of the net delta, and the weight is at most
-- `MAX_BASIS_POINTS` times the units used
pub record IsCommodityState (state : CommodityState) : Type 0 where
  pub net : nat_abs state.net ≤ MAX_UNITS
  pub price2 : state.price2 ≤ MAX_PRICE2
  pub rest : IsLeftOf state.net state.rest
  pub weight : state.weight + MAX_BASIS_POINTS * nat_abs state.rest ≤ MAX_BASIS_POINTS * nat_abs state.net
