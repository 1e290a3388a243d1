-- The plans of the commodities of a parameter set.
use Rattle.std.specs.Prelude.{◌≡◌, ℕ, ◌<◌, ◌≤◌, List, length, map, slice_index_or, All}
use Rattle.span_money.specs.declared.bits.TheConstants.{BITS}
use Rattle.span_tables.specs.Tables.{AcceptedTables, commodity_id, intras_of, spots_of, tiers_of}
use Rattle.span_tables.specs.declared.records.Intra.{Intra}
use Rattle.span_tables.specs.declared.records.Spot.{Spot}
use Rattle.span_tables.specs.declared.records.Tier.{Tier}
use Rattle.spread_stage.specs.near.SpotIndex.{AreSpots}
use Rattle.spread_stage.specs.near.TierPlans.{AreIndexed, AreKnown, intra_of}
use Rattle.spread_stage.specs.declared.tier_plans.TierPlan.{TierPlan}

-- the spreads of the plan are by the numbers of these tiers, and its index has each of them
pub record IsByTiers (tiers : List Tier) (plan : TierPlan) : Type 0 where
  pub known : All (AreKnown tiers) plan.spreads.items
  pub indexed : AreIndexed plan.index plan.spreads.items
  pub few : length plan.spreads.items ≤ BITS

-- the plan has these spreads, by the numbers of these tiers, and an index of these spot months
pub record IsPlanOf (tiers : List Tier) (intras : List Intra) (spots : List Spot) (plan : TierPlan) : Type 0 where
  pub spreads : map intra_of plan.spreads.items ≡ intras
  pub by_tiers : IsByTiers tiers plan
  pub months : AreSpots plan.spots spots

-- the plan has the spreads and the spot months of the commodity with an id
abbrev pub IsPlan : AcceptedTables → List ℕ → TierPlan → Type 0
IsPlan t id plan = IsPlanOf (tiers_of t id) (intras_of t id) (spots_of t id) plan

-- the plans of all commodities, by number
pub record ArePlans (t : AcceptedTables) (plans : List TierPlan) : Type 0 where
  pub every : length plans ≡ length t.commodities
  pub each : (c : ℕ) → c < length t.commodities → (d : TierPlan) → IsPlan t (commodity_id t c) (slice_index_or plans c d)
