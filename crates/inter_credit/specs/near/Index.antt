-- An index of spreads by the commodities of their legs, and what it says of the spreads that are formed.
use Rattle.std.specs.Prelude.{◌≡◌, ℕ, ◌<◌, ◌-◌, List, [], ◌∷◌, length, take, drop, slice_index_or}
use Rattle.span_money.specs.declared.bits.TheConstants.{BITS}
use Rattle.span_tables.specs.declared.leg_index.LegAt.{LegAt}
use Rattle.span_tables.specs.declared.leg_index.LegIndex.{LegIndex}
use Rattle.span_tables.specs.declared.records.CommodityLeg.{CommodityLeg}
use Rattle.span_tables.specs.declared.records.Inter.{Inter}
use Rattle.span_tables.specs.declared.sides.Direction.{Direction}
use Rattle.span_tables.specs.near.LegIndex.{HasEnds}
use Rattle.inter_credit.specs.Credits.{inter_formed_in}
use Rattle.inter_credit.specs.declared.commodity_state.CommodityState.{CommodityState}
use Rattle.inter_credit.specs.declared.index.SpreadIndex.{SpreadIndex}

-- a leg as an index sees it
abbrev pub leg_at : CommodityLeg → LegAt
leg_at leg = record { number = leg.commodity; side = leg.side }

-- the index has a spread by its first and its last leg, if it has legs
abbrev pub HasSpread : LegIndex → ℕ → List CommodityLeg → Type 0
HasSpread block number legs =
    (d : CommodityLeg) → 0 < length legs
    → HasEnds block number (leg_at (slice_index_or legs 0 d)) (leg_at (slice_index_or legs (length legs - 1) d))

-- the index has each of the spreads
abbrev pub AreCovered : LegIndex → List Inter → Type 0
AreCovered block spreads =
    (number : ℕ) (d : Inter) → number < length spreads → HasSpread block number (slice_index_or spreads number d).legs

-- each index covers its spreads, and together they cover all spreads, in order
abbrev pub AreBlocks : List LegIndex → List Inter → Type 0
AreBlocks [] spreads = spreads ≡ []
AreBlocks (block ∷ blocks) spreads = AreCovered block (take BITS spreads) × AreBlocks blocks (drop BITS spreads)

-- the index is one of the spreads
abbrev pub IsIndex : SpreadIndex → List Inter → Type 0
IsIndex index spreads = AreBlocks index.blocks.items spreads

-- the spread is formed in neither direction
abbrev pub FormsNothing : List CommodityState → Inter → Type 0
FormsNothing states spread = (d : Direction) → inter_formed_in spread d states ≡ 0
