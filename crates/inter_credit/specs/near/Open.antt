-- The sides of the market that an intercommodity state marks, in addition to the states of its commodities.
use Rattle.std.specs.Prelude.{◌≡◌, ◌⊎◌, ℕ, List, All, pos}
use Rattle.span_tables.specs.Slots.{IsMarked, IsOpenAt}
use Rattle.span_tables.specs.declared.slots.OpenSides.{OpenSides}
use Rattle.inter_credit.specs.Credits.{rest_at, state_at, unspread_state}
use Rattle.inter_credit.specs.near.CommodityStates.{IsCommodityState}
use Rattle.inter_credit.specs.declared.commodity_state.CommodityState.{CommodityState}

-- the remaining delta of each commodity is on a side of the market that is marked for the commodity
abbrev pub AreOpen : OpenSides → List CommodityState → Type 0
AreOpen sides states = (commodity : ℕ) → IsOpenAt sides commodity (rest_at states commodity)

-- each commodity is marked, or its state is the one of an unloaded commodity
abbrev pub AreLoaded : ℕ → List CommodityState → Type 0
AreLoaded loaded states = (commodity : ℕ) → IsMarked loaded commodity ⊎ (state_at states commodity ≡ unspread_state (pos 0) 0)

-- states in range, the sides of the market that their remaining deltas are on, and the marks of loaded commodities
pub record AreStates (states : List CommodityState) (sides : OpenSides) (loaded : ℕ) : Type 0 where
  pub in_range : All IsCommodityState states
  pub open_sides : AreOpen sides states
  pub are_loaded : AreLoaded loaded states
