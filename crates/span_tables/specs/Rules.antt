-- The rules between the records of a parameter file.
use Rattle.std.specs.Prelude.{ℕ, Bool, true, false, not, ◌&&◌, ◌||◌, ◌==◌, nat_lt, nat_le, min, max}
use Rattle.std.specs.Prelude.{if◌then◌else◌, List, [], ◌∷◌, map, filter_map, Option, Some, None, is_none, bytes_eq}
use Rattle.std.specs.List.{list_any, list_all}
use Rattle.std.specs.Option.{option_map_or}
use Rattle.span_tables.specs.Faults.{all_faults, first_of}
use Rattle.span_tables.specs.Names.{has_repeat}
use Rattle.span_tables.specs.declared.sides.Side.{Side}
use Rattle.span_tables.specs.declared.sides.Side.TheVariants as side
use Rattle.span_tables.specs.declared.records.Commodity.{Commodity}
use Rattle.span_tables.specs.declared.records.Contract.{Contract}
use Rattle.span_tables.specs.declared.records.Tier.{Tier}
use Rattle.span_tables.specs.declared.records.IntraRecord.{IntraRecord}
use Rattle.span_tables.specs.declared.records.Spot.{Spot}
use Rattle.span_tables.specs.declared.records.InterRecord.{InterRecord}
use Rattle.span_tables.specs.declared.records.SetRecord.{SetRecord}
use Rattle.span_tables.specs.declared.records.Record.{Record}
use Rattle.span_tables.specs.declared.records.Record.TheVariants.{Set, Commodity as CommodityRecord, Contract as ContractRecord}
use Rattle.span_tables.specs.declared.records.Record.TheVariants.{Tier as TierRecord, Intra, Spot as SpotRecord, Inter}

-- ---- the records of each kind, in file order

-- the record as a SET record, if it is one
abbrev pub as_set : Record → Option SetRecord
as_set (Set x) = Some x
as_set _ = None

-- the record as a COMMODITY record, if it is one
abbrev pub as_commodity : Record → Option Commodity
as_commodity (CommodityRecord x) = Some x
as_commodity _ = None

-- the record as a CONTRACT record, if it is one
abbrev pub as_contract : Record → Option Contract
as_contract (ContractRecord x) = Some x
as_contract _ = None

-- the record as a TIER record, if it is one
abbrev pub as_tier : Record → Option Tier
as_tier (TierRecord x) = Some x
as_tier _ = None

-- the record as an INTRA record, if it is one
abbrev pub as_intra : Record → Option IntraRecord
as_intra (Intra x) = Some x
as_intra _ = None

-- the record as a SPOT record, if it is one
abbrev pub as_spot : Record → Option Spot
as_spot (SpotRecord x) = Some x
as_spot _ = None

-- the record as an INTER record, if it is one
abbrev pub as_inter : Record → Option InterRecord
as_inter (Inter x) = Some x
as_inter _ = None

-- the commodities
abbrev pub commodities_in : List Record → List Commodity
commodities_in rs = filter_map as_commodity rs

-- the contracts
abbrev pub contracts_in : List Record → List Contract
contracts_in rs = filter_map as_contract rs

-- the tiers
abbrev pub tiers_in : List Record → List Tier
tiers_in rs = filter_map as_tier rs

-- the intracommodity spreads
abbrev pub intras_in : List Record → List IntraRecord
intras_in rs = filter_map as_intra rs

-- the spot months
abbrev pub spots_in : List Record → List Spot
spots_in rs = filter_map as_spot rs

-- the intercommodity spreads
abbrev pub inters_in : List Record → List InterRecord
inters_in rs = filter_map as_inter rs

-- the record is of a kind, and passes a test of that kind
abbrev pub is_and : {A : Type 0} → Option A → (A → Bool) → Bool
is_and x test = option_map_or test x false

-- ---- the condition that each rule forbids, for a record, the earlier records, and all records of the file

-- a COMMODITY with the id of an earlier one
abbrev pub repeats_commodity : List Record → Record → Bool
repeats_commodity earlier r =
    is_and (as_commodity r) (λ c. list_any (λ d. bytes_eq d.id c.id) (commodities_in earlier))

-- the commodities that a record names
abbrev pub named_commodities : Record → List (List ℕ)
named_commodities (Set x) = []
named_commodities (CommodityRecord x) = []
named_commodities (ContractRecord x) = x.commodity ∷ []
named_commodities (TierRecord x) = x.commodity ∷ []
named_commodities (Intra x) = x.commodity ∷ []
named_commodities (SpotRecord x) = x.commodity ∷ []
named_commodities (Inter x) = map (λ leg. leg.commodity) x.legs.items

-- a record names a commodity that no COMMODITY record of the file has
abbrev pub names_no_commodity : List Record → Record → Bool
names_no_commodity all r =
    list_any (λ name. not (list_any (λ c. bytes_eq c.id name) (commodities_in all))) (named_commodities r)

-- a CONTRACT with the id of an earlier one
abbrev pub repeats_contract : List Record → Record → Bool
repeats_contract earlier r =
    is_and (as_contract r) (λ x. list_any (λ y. bytes_eq y.id x.id) (contracts_in earlier))

-- a TIER with the commodity and number of an earlier one
abbrev pub repeats_tier : List Record → Record → Bool
repeats_tier earlier r =
    is_and (as_tier r) (λ t. list_any (λ u. bytes_eq u.commodity t.commodity && (u.number == t.number)) (tiers_in earlier))

-- a TIER whose first month is after its last
abbrev pub is_backwards : Record → Bool
is_backwards r = is_and (as_tier r) (λ t. nat_lt t.last t.first)

-- two tiers share a month
abbrev pub share_month : Tier → Tier → Bool
share_month t u = nat_le (max t.first u.first) (min t.last u.last)

-- a TIER that shares a month with an earlier one of its commodity
abbrev pub overlaps_tier : List Record → Record → Bool
overlaps_tier earlier r =
    is_and (as_tier r) (λ t. list_any (λ u. bytes_eq u.commodity t.commodity && share_month t u) (tiers_in earlier))

-- a TIER record has this commodity and number
abbrev pub has_tier : List Record → List ℕ → ℕ → Bool
has_tier all commodity number = list_any (λ t. bytes_eq t.commodity commodity && (t.number == number)) (tiers_in all)

-- an INTRA with a leg whose tier number no TIER record of its commodity has
abbrev pub names_no_tier : List Record → Record → Bool
names_no_tier all r = is_and (as_intra r) (λ s. list_any (λ leg. not (has_tier all s.commodity leg.tier)) s.legs.items)

-- the leg is on side A
abbrev pub is_side_a : Side → Bool
is_side_a side.A = true
is_side_a side.B = false

-- two legs are on the same side
abbrev pub same_side : Side → Side → Bool
same_side side.A b = is_side_a b
same_side side.B b = not (is_side_a b)

-- an INTRA with two legs of the same tier and side, or an INTER with two legs of the same commodity
abbrev pub repeats_leg : Record → Bool
repeats_leg r =
    is_and (as_intra r) (λ s. has_repeat (λ a b. (a.tier == b.tier) && same_side a.side b.side) s.legs.items)
    || is_and (as_inter r) (λ s. has_repeat (λ a b. bytes_eq a.commodity b.commodity) s.legs.items)

-- the sides are all A, or all B
abbrev pub are_one_sided : List Side → Bool
are_one_sided sides = list_all is_side_a sides || list_all (λ s. not (is_side_a s)) sides

-- an INTRA or INTER without a leg on side A or without a leg on side B
abbrev pub is_one_sided : Record → Bool
is_one_sided r =
    is_and (as_intra r) (λ s. are_one_sided (map (λ leg. leg.side) s.legs.items))
    || is_and (as_inter r) (λ s. are_one_sided (map (λ leg. leg.side) s.legs.items))

-- an INTRA with the commodity and priority of an earlier INTRA, or an INTER with the priority of an earlier INTER
abbrev pub repeats_priority : List Record → Record → Bool
repeats_priority earlier r =
    is_and (as_intra r) (λ s.
    list_any (λ x. bytes_eq x.commodity s.commodity && (x.priority == s.priority)) (intras_in earlier))
    || is_and (as_inter r) (λ s. list_any (λ x. x.priority == s.priority) (inters_in earlier))

-- a SPOT with the commodity and month of an earlier one
abbrev pub repeats_spot : List Record → Record → Bool
repeats_spot earlier r =
    is_and (as_spot r) (λ s. list_any (λ x. bytes_eq x.commodity s.commodity && (x.month == s.month)) (spots_in earlier))

-- ---- the rules together

-- the rules in the order of their numbers, for the records of a file
abbrev pub rules : List Record → List (List Record → Record → Bool)
rules all =
    repeats_commodity
    ∷ (λ earlier r. names_no_commodity all r)
    ∷ repeats_contract
    ∷ repeats_tier
    ∷ (λ earlier r. is_backwards r)
    ∷ overlaps_tier
    ∷ (λ earlier r. names_no_tier all r)
    ∷ (λ earlier r. repeats_leg r)
    ∷ (λ earlier r. is_one_sided r)
    ∷ repeats_priority
    ∷ repeats_spot
    ∷ []

-- the fault of each record that breaks a rule, applied to the record's number
abbrev pub all_breaking : {F : Type 0} → (ℕ → F) → (List Record → Record → Bool) → List Record → List F
all_breaking fault breaks all = all_faults (λ earlier r. if breaks earlier r then Some fault else None) all

-- the fault of the first record that breaks a rule, applied to the record's number
abbrev pub first_breaking : {F : Type 0} → (ℕ → F) → (List Record → Record → Bool) → List Record → Option F
first_breaking fault breaks all = first_of (all_breaking fault breaks all)

-- no record breaks any rule
unfoldable pub keeps_rules : List Record → Bool
keeps_rules all = list_all (λ breaks. is_none (first_breaking (λ at. at) breaks all)) (rules all)
