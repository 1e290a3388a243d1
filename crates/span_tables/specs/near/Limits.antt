-- The conditions on the records of a parameter file without a fault: field ranges, counts, and the fields of the
-- profile.
use Rattle.std.specs.Prelude.{ℕ, Bool, false, not, ◌&&◌, ◌||◌, ◌==◌, nat_le, List, [], ◌∷◌, length, count_by, is_some, bytes_eq, nat_abs}
use Rattle.std.specs.List.{list_all}
use Rattle.span_tables.specs.Names.{is_name}
use Rattle.span_money.specs.Numbers.{is_month}
use Rattle.span_tables.specs.Rules.{as_set, commodities_in, contracts_in, tiers_in, intras_in, spots_in, inters_in}
use Rattle.span_tables.specs.declared.records.Commodity.{Commodity}
use Rattle.span_tables.specs.declared.records.Contract.{Contract}
use Rattle.span_tables.specs.declared.records.ContractExtras.{ContractExtras}
use Rattle.span_tables.specs.declared.records.Tier.{Tier}
use Rattle.span_tables.specs.declared.records.IntraRecord.{IntraRecord}
use Rattle.span_tables.specs.declared.records.Spot.{Spot}
use Rattle.span_tables.specs.declared.records.InterRecord.{InterRecord}
use Rattle.span_tables.specs.declared.records.Record.{Record}
use Rattle.span_tables.specs.declared.records.Record.TheVariants as record_of
use Rattle.span_tables.specs.declared.limits.TheConstants.{MAX_COMMODITIES, MAX_CONTRACTS, MAX_TIERS, MAX_INTRA_SPREADS}
use Rattle.span_tables.specs.declared.limits.TheConstants.{MAX_SPOT_MONTHS, MAX_INTER_SPREADS, MAX_RATE}
use Rattle.span_tables.specs.declared.limits.TheConstants.{MAX_ARRAY_VALUE, MAX_DELTA, MAX_SCALE, MAX_RATIO}
use Rattle.span_tables.specs.declared.limits.TheConstants.{MAX_TIER_NUMBER, MAX_PRIORITY, MAX_BASIS_POINTS, MIN_LEGS}
use Rattle.span_tables.specs.declared.limits.TheConstants.{MAX_LEGS, SCENARIOS, MAX_PROFILE}
use Rattle.span_tables.specs.declared.records.ProductKind.{ProductKind}
use Rattle.span_tables.specs.declared.records.SetRecord.{SetRecord}
use Rattle.span_tables.specs.Profiles.{facts_of}
use Rattle.span_tables.specs.Tables.{most_option_value, profile_in}

-- n is from low to high
abbrev pub lies_within : ℕ → ℕ → ℕ → Bool
lies_within low high n = nat_le low n && nat_le n high

-- n is a valid rate
abbrev pub is_rate : ℕ → Bool
is_rate n = nat_le n MAX_RATE

-- n is a valid ratio, at least 0.0001
abbrev pub is_ratio : ℕ → Bool
is_ratio n = lies_within 1 MAX_RATIO n

-- n is a valid tier number, at least 1
abbrev pub is_tier_number : ℕ → Bool
is_tier_number n = lies_within 1 MAX_TIER_NUMBER n

-- n is a valid priority, at least 1
abbrev pub is_priority : ℕ → Bool
is_priority n = lies_within 1 MAX_PRIORITY n

-- ---- the ranges of each record

-- a SET record: its id, and its profile, which is at least 1
abbrev pub set_in_range : SetRecord → Bool
set_in_range s = is_name s.id && lies_within 1 MAX_PROFILE s.profile

-- a commodity: its id and its rate
abbrev pub commodity_in_range : Commodity → Bool
commodity_in_range c = is_name c.id && is_rate c.minimum_rate

-- the fields that profiles add to a contract of a kind: its option value
abbrev pub extras_in_range : ProductKind → ContractExtras → Bool
extras_in_range kind extras = nat_le extras.option_value (most_option_value kind)

-- a contract: its names, month, delta, scale, a value for each scenario and the fields that its profile adds
abbrev pub contract_in_range : Contract → Bool
contract_in_range x =
    is_name x.id && is_name x.commodity && is_month x.month && nat_le (nat_abs x.delta) MAX_DELTA && lies_within 1 MAX_SCALE x.scale
    && (length x.values == SCENARIOS) && list_all (λ v. nat_le (nat_abs v) MAX_ARRAY_VALUE) x.values
    && extras_in_range x.kind x.extras

-- a tier: its commodity, number and months
abbrev pub tier_in_range : Tier → Bool
tier_in_range t = is_name t.commodity && is_tier_number t.number && is_month t.first && is_month t.last

-- an intracommodity spread: its commodity, priority, rate and number of legs
abbrev pub intra_in_range : IntraRecord → Bool
intra_in_range s =
    is_name s.commodity && is_priority s.priority && is_rate s.rate && lies_within MIN_LEGS MAX_LEGS (length s.legs.items)
    && list_all (λ leg. is_tier_number leg.tier && is_ratio leg.ratio) s.legs.items

-- a spot month: its commodity, month and rates
abbrev pub spot_in_range : Spot → Bool
spot_in_range s = is_name s.commodity && is_month s.month && is_rate s.spread_rate && is_rate s.outright_rate

-- an intercommodity spread: its priority, basis points and number of legs
abbrev pub inter_in_range : InterRecord → Bool
inter_in_range s =
    is_priority s.priority && nat_le s.basis_points MAX_BASIS_POINTS && lies_within MIN_LEGS MAX_LEGS (length s.legs.items)
    && list_all (λ leg. is_name leg.commodity && is_ratio leg.ratio) s.legs.items

-- a record of any kind
abbrev pub in_range : Record → Bool
in_range (record_of.Set s) = set_in_range s
in_range (record_of.Commodity c) = commodity_in_range c
in_range (record_of.Contract x) = contract_in_range x
in_range (record_of.Tier t) = tier_in_range t
in_range (record_of.Intra s) = intra_in_range s
in_range (record_of.Spot s) = spot_in_range s
in_range (record_of.Inter s) = inter_in_range s

-- ---- the number of records

-- the first record is a SET, and no other
abbrev pub begins_with_set : List Record → Bool
begins_with_set [] = false
begins_with_set (r ∷ rs) = is_some (as_set r) && list_all (λ x. not (is_some (as_set x))) rs

-- no commodity has more than `most` of the records
abbrev pub at_most_each : {A : Type 0} → ℕ → (A → List ℕ) → List A → Bool
at_most_each most commodity_of xs =
    list_all (λ x. nat_le (count_by (λ y. bytes_eq (commodity_of y) (commodity_of x)) xs) most) xs

-- the number of records of each kind is within its limit
abbrev pub keeps_counts : List Record → Bool
keeps_counts rs =
    nat_le (length (commodities_in rs)) MAX_COMMODITIES && nat_le (length (contracts_in rs)) MAX_CONTRACTS
    && nat_le (length (inters_in rs)) MAX_INTER_SPREADS
    && at_most_each MAX_TIERS (λ t. t.commodity) (tiers_in rs)
    && at_most_each MAX_INTRA_SPREADS (λ s. s.commodity) (intras_in rs)
    && at_most_each MAX_SPOT_MONTHS (λ s. s.commodity) (spots_in rs)

-- ---- the profile

-- contracts have an option value only under a profile that has option values; under any other profile each value is 0
abbrev pub keeps_profile : List Record → Bool
keeps_profile rs = (facts_of (profile_in rs)).options_have_value || list_all (λ x. x.extras.option_value == 0) (contracts_in rs)

-- the records are those that a parameter file without a fault has
unfoldable pub is_readable : List Record → Bool
is_readable rs = begins_with_set rs && list_all in_range rs && keeps_counts rs && keeps_profile rs
