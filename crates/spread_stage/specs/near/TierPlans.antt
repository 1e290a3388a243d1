-- Spreads by the numbers of their tiers.
use Rattle.std.specs.Prelude.{◌≡◌, ℕ, ◌-◌, ◌<◌, List, [], length, map, slice_index_or, All}
use Rattle.span_tables.specs.declared.leg_index.LegAt.{LegAt}
use Rattle.span_tables.specs.declared.leg_index.LegIndex.{LegIndex}
use Rattle.span_tables.specs.declared.records.Intra.{Intra}
use Rattle.span_tables.specs.declared.records.Tier.{Tier}
use Rattle.span_tables.specs.near.LegIndex.{HasEnds}
use Rattle.spread_stage.specs.declared.tier_plans.TierLeg.{TierLeg}
use Rattle.spread_stage.specs.declared.tier_plans.TierSpread.{TierSpread}

-- a tier without months
abbrev pub no_tier : Tier
no_tier = record { commodity = []; number = 0; first = 1; last = 0 }

-- the tier with a number
abbrev pub tier_at : List Tier → ℕ → Tier
tier_at tiers number = slice_index_or tiers number no_tier

-- the tier with the number of a leg has the months of the leg
pub record IsKnown (tiers : List Tier) (leg : TierLeg) : Type 0 where
  pub within : leg.tier < length tiers
  pub first : (tier_at tiers leg.tier).first ≡ leg.months.first
  pub last : (tier_at tiers leg.tier).last ≡ leg.months.last

-- the spread without the numbers of its tiers
abbrev pub intra_of : TierSpread → Intra
intra_of s = record { priority = s.priority; rate = s.rate; legs = map (λ leg. leg.months) s.legs.items }

-- the number of each leg of a spread is the number of its tier
abbrev pub AreKnown : List Tier → TierSpread → Type 0
AreKnown tiers s = All (IsKnown tiers) s.legs.items

-- a leg by its number and side
abbrev pub leg_at : TierLeg → LegAt
leg_at leg = record { number = leg.tier; side = leg.months.side }

-- the index has a spread with these legs, by its first and its last leg
abbrev pub IsIndexed : LegIndex → ℕ → List TierLeg → Type 0
IsIndexed index number legs = (d : TierLeg)
    → HasEnds index number (leg_at (slice_index_or legs 0 d)) (leg_at (slice_index_or legs (length legs - 1) d))

-- the index has each of the spreads
abbrev pub AreIndexed : LegIndex → List TierSpread → Type 0
AreIndexed index spreads = (k : ℕ) (d : TierSpread) → k < length spreads → IsIndexed index k (slice_index_or spreads k d).legs.items
