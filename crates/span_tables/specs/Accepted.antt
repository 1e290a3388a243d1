-- The properties of the accepted tables of a parameter set, and of the lists that are computed from them in advance.
use Rattle.std.specs.Prelude.{◌≡◌, ℕ, ◌<◌, ◌≤◌, true, false, List, length, ◌==◌, bytes_eq, All, nat_abs}
use Rattle.std.specs.List.{list_any, position_or_len}
use Rattle.span_tables.specs.Names.{has_repeat}
use Rattle.span_tables.specs.Rules.{share_month}
use Rattle.span_tables.specs.Tables.{AcceptedTables, has_months, intras_of, spots_of, tiers_of, inters_of}
use Rattle.span_tables.specs.declared.limits.TheConstants.{MAX_COMMODITIES, MAX_CONTRACTS, MAX_TIERS, MAX_INTRA_SPREADS}
use Rattle.span_tables.specs.declared.limits.TheConstants.{MAX_SPOT_MONTHS, MAX_INTER_SPREADS, MAX_RATE}
use Rattle.span_tables.specs.declared.limits.TheConstants.{MAX_ARRAY_VALUE, MAX_DELTA, MAX_SCALE, SCENARIOS, MAX_RATIO}
use Rattle.span_tables.specs.declared.limits.TheConstants.{MAX_BASIS_POINTS, MAX_OPTION_VALUE, MAX_PROFILE}
use Rattle.span_tables.specs.declared.records.Commodity.{Commodity}
use Rattle.span_tables.specs.declared.records.Contract.{Contract}
use Rattle.span_tables.specs.declared.records.Spot.{Spot}
use Rattle.span_tables.specs.declared.records.Intra.{Intra}
use Rattle.span_tables.specs.declared.records.Inter.{Inter}

-- the number of the commodity with an id
abbrev pub commodity_number : List Commodity → List ℕ → ℕ
commodity_number commodities id = position_or_len (λ c. bytes_eq c.id id) commodities

-- the delta, scale, risk array and option value of a contract are in range
pub record IsContract (x : Contract) : Type 0 where
  pub delta : nat_abs x.delta ≤ MAX_DELTA
  pub scale : x.scale ≤ MAX_SCALE
  pub sixteen : length x.values ≡ SCENARIOS
  pub values : All (λ v. nat_abs v ≤ MAX_ARRAY_VALUE) x.values
  pub option_value : x.extras.option_value ≤ MAX_OPTION_VALUE

-- an intracommodity spread has 2 to 4 legs, and its rate and ratios are in range
pub record IsIntra (s : Intra) : Type 0 where
  pub rate : s.rate ≤ MAX_RATE
  pub at_least_two : 2 ≤ length s.legs
  pub at_most_four : length s.legs ≤ 4
  pub ratios_above : All (λ leg. 0 < leg.ratio) s.legs
  pub ratios_below : All (λ leg. leg.ratio ≤ MAX_RATIO) s.legs

-- the rates of a spot month are in range
pub record IsSpot (s : Spot) : Type 0 where
  pub spread_rate : s.spread_rate ≤ MAX_RATE
  pub outright_rate : s.outright_rate ≤ MAX_RATE

-- an intercommodity spread has 2 to 4 legs, each in a different one of the commodities, and its rate and ratios are in
-- range
pub record IsInter (commodities : ℕ) (s : Inter) : Type 0 where
  pub basis_points : s.basis_points ≤ MAX_BASIS_POINTS
  pub at_least_two : 2 ≤ length s.legs
  pub at_most_four : length s.legs ≤ 4
  pub ratios_above : All (λ leg. 0 < leg.ratio) s.legs
  pub ratios_below : All (λ leg. leg.ratio ≤ MAX_RATIO) s.legs
  pub known : All (λ leg. leg.commodity < commodities) s.legs
  pub apart : has_repeat (λ a b. a.commodity == b.commodity) s.legs ≡ false

-- the limits that accepted tables are within
pub record IsWithinLimits (t : AcceptedTables) : Type 0 where
  pub profile : t.profile ≤ MAX_PROFILE
  pub commodities : length t.commodities ≤ MAX_COMMODITIES
  pub contracts : length t.contracts ≤ MAX_CONTRACTS
  pub minimum_rates : All (λ c. c.minimum_rate ≤ MAX_RATE) t.commodities
  pub commodities_apart : has_repeat (λ c d. bytes_eq c.id d.id) t.commodities ≡ false
  pub contracts_in_range : All IsContract t.contracts
  pub contracts_apart : has_repeat (λ x y. bytes_eq x.id y.id) t.contracts ≡ false
  pub contracts_known : All (λ x. commodity_number t.commodities x.commodity < length t.commodities) t.contracts
  pub few_intras : (id : List ℕ) → length (intras_of t id) ≤ MAX_INTRA_SPREADS
  pub intras_in_range : (id : List ℕ) → All IsIntra (intras_of t id)
  pub few_tiers : (id : List ℕ) → length (tiers_of t id) ≤ MAX_TIERS
  pub tiers_apart : (id : List ℕ) → has_repeat share_month (tiers_of t id) ≡ false
  pub legs_known : (id : List ℕ) → All (λ s. All (λ leg. list_any (has_months leg) (tiers_of t id) ≡ true) s.legs) (intras_of t id)
  pub few_spots : (id : List ℕ) → length (spots_of t id) ≤ MAX_SPOT_MONTHS
  pub spots_in_range : (id : List ℕ) → All IsSpot (spots_of t id)
  pub few_inters : length (inters_of t) ≤ MAX_INTER_SPREADS
  pub inters_in_range : All (IsInter (length t.commodities)) (inters_of t)
