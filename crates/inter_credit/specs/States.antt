-- The properties of the states of commodities.
use Rattle.std.specs.Prelude.{◌≡◌, ℕ, ◌+◌, ◌*◌, List, slice_get, IfSome, All, pos, nat_abs}
use Rattle.span_tables.specs.Sides.{IsLeftOf}
use Rattle.inter_credit.specs.declared.commodity_state.CommodityState.{CommodityState}

-- units of a commodity were used, each at a number of basis points: net delta and price risk do not change, the
-- remaining delta is a part of the earlier one, and the weight grows by the used units times the basis points
pub record UsesState (basis_points : ℕ) (before after : CommodityState) : Type 0 where
  pub net : after.net ≡ before.net
  pub price2 : after.price2 ≡ before.price2
  pub rest : IsLeftOf before.rest after.rest
  pub weight : after.weight + basis_points * nat_abs after.rest ≡ before.weight + basis_points * nat_abs before.rest

-- no spread was formed: the remaining delta of a commodity is its full net delta
pub record IsUnspreadState (state : CommodityState) : Type 0 where
  pub rest : state.rest ≡ state.net
  pub weight : state.weight ≡ 0

-- no spread was formed for any commodity
abbrev pub IsUnspread : List CommodityState → Type 0
IsUnspread states = All IsUnspreadState states

-- nothing was loaded for a commodity number: its net delta and its price risk are 0
abbrev pub IsNotLoaded : List CommodityState → ℕ → Type 0
IsNotLoaded states commodity = IfSome (slice_get states commodity) (λ state. (state.net ≡ pos 0) × (state.price2 ≡ 0))
