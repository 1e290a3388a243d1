-- The sums of tier sides over the remaining deltas of months.
use Rattle.std.specs.Prelude.{◌≡◌, ℕ, Bool, ◌&&◌, nat_le, ◌+◌, ◌<◌, ◌≤◌, ◌==◌, true, if◌then◌else◌}
use Rattle.std.specs.Prelude.{List, [], ◌∷◌, map, length, slice_index_or, All}
use Rattle.span_tables.specs.Sides.{Room, market_side}
use Rattle.span_tables.specs.Slots.{IsMarked, numbers_on}
use Rattle.span_tables.specs.declared.legs.MonthLeg.{MonthLeg}
use Rattle.span_tables.specs.declared.limits.TheConstants.{MAX_TIERS}
use Rattle.span_tables.specs.declared.records.Intra.{Intra}
use Rattle.span_tables.specs.declared.records.Tier.{Tier}
use Rattle.span_tables.specs.declared.sides.Direction.{Direction}
use Rattle.span_tables.specs.declared.sides.MarketSide.{MarketSide}
use Rattle.span_tables.specs.declared.sides.MarketSide.TheVariants.{Long, Short}
use Rattle.span_tables.specs.declared.sides.Side.TheVariants as side
use Rattle.span_tables.specs.declared.slots.OpenSides.{OpenSides}
use Rattle.spread_stage.specs.Spreads.{is_in_tier, tier_side}
use Rattle.spread_stage.specs.near.TierPlans.{tier_at}
use Rattle.spread_stage.specs.near.Uses.{IsSpan}
use Rattle.spread_stage.specs.declared.months.MonthUnits.{MonthUnits}
use Rattle.spread_stage.specs.declared.tier_plans.TierLeg.{TierLeg}
use Rattle.spread_stage.specs.declared.tier_sums.TierSum.{TierSum}
use Rattle.spread_stage.specs.declared.tier_sums.TierSums.{TierSums}
use Rattle.spread_stage.specs.declared.tiers.Span.{Span}

-- the month is in the tier
abbrev pub has_month : ℕ → Tier → Bool
has_month month tier = nat_le tier.first month && nat_le month tier.last

-- the place of a side of the market in a tier's sums
abbrev pub side_place : MarketSide → ℕ
side_place Long = 0
side_place Short = 1

-- the sum of a side of the market
abbrev pub sum_on : MarketSide → TierSum → ℕ
sum_on on s = slice_index_or s.sides (side_place on) 0

-- no sum
abbrev pub no_sum : TierSum
no_sum = record { sides = 0 ∷ 0 ∷ [] }

-- the sum of a side of a tier
abbrev pub sum_of : TierSums → MarketSide → ℕ → ℕ
sum_of s on tier = sum_on on (slice_index_or s.sums tier no_sum)

-- a span without a place
abbrev pub no_span : Span
no_span = record { first = 0; end = 0 }

-- the places of a tier's months
abbrev pub span_of : TierSums → ℕ → Span
span_of s tier = slice_index_or s.spans tier no_span

-- the span with one more place at its end
abbrev pub span_with : Span → ℕ → Span
span_with s place = record { first = if s.end == 0 then place else s.first; end = place + 1 }

-- a leg with the months of the tier
abbrev pub months_of : Tier → MonthLeg
months_of t = record { first = t.first; last = t.last; side = side.A; ratio = 1 }

-- the sums are the sums of the tiers, and all months of a tier are in its span
pub record AreSums (tiers : List Tier) (rests : List MonthUnits) (s : TierSums) : Type 0 where
  pub sums : (k : ℕ) → k < length tiers → (on : MarketSide) → sum_of s on k ≡ tier_side rests on (months_of (tier_at tiers k))
  pub spans : (k : ℕ) → k < length tiers → IsSpan rests (months_of (tier_at tiers k)) (span_of s k)

-- the sides of tiers that have a sum are open
abbrev pub AreOpen : List Tier → TierSums → OpenSides → Type 0
AreOpen tiers s sides = (k : ℕ) → k < length tiers → (on : MarketSide) → 0 < sum_of s on k → IsMarked (numbers_on on sides) k

-- one sum was changed, and no other
pub record IsChanged (on : MarketSide) (tier sum : ℕ) (before after : TierSums) : Type 0 where
  pub here : sum_of after on tier ≡ sum
  pub others : (side : MarketSide) (k : ℕ) → k < MAX_TIERS → (side ≡ on → k ≡ tier → ⊥) → sum_of after side k ≡ sum_of before side k

-- no month is in two of the tiers
abbrev pub AreApart : List Tier → Type 0
AreApart tiers =
    (i j : ℕ) → i < length tiers → j < length tiers → (i ≡ j → ⊥) → (m : MonthUnits)
    → is_in_tier (months_of (tier_at tiers i)) m ≡ true → is_in_tier (months_of (tier_at tiers j)) m ≡ true → ⊥

-- the tiers of a commodity: within their limit, and apart
pub record AreTiers (tiers : List Tier) : Type 0 where
  pub few : length tiers ≤ MAX_TIERS
  pub apart : AreApart tiers

-- for each leg, the sum of the side that it can use in a direction, with its ratio
abbrev pub sum_rooms : Direction → List TierLeg → TierSums → List Room
sum_rooms d legs s = map (λ leg. record { side = sum_of s (market_side d leg.months.side) leg.tier; ratio = leg.months.ratio }) legs

-- a leg of the spread has nothing to use in a direction
abbrev pub IsClosed : Direction → List MonthUnits → Intra → Type 0
IsClosed d rests s = All (λ leg. 0 < tier_side rests (market_side d leg.side) leg) s.legs → ⊥
