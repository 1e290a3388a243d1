-- The accepted tables: commodities and contracts in file order, and spreads by rising priority with the months or
-- numbers that they name.
use Rattle.std.specs.Prelude.{ℕ, Bool, true, ◌&&◌, ◌==◌, nat_le, if◌then◌else◌, List, [], slice_get}
use Rattle.std.specs.Prelude.{Option, ◌∷◌, map, filter, find, filter_map, option_map, unwrap_or, bytes_eq}
use Rattle.std.specs.List.{position_or_len}
use Rattle.span_tables.specs.Profiles.{facts_of}
use Rattle.span_tables.specs.Rules.{as_set, commodities_in, contracts_in, tiers_in, intras_in, spots_in, inters_in}
use Rattle.span_tables.specs.declared.profiles.ProfileFacts.{ProfileFacts}
use Rattle.span_tables.specs.declared.records.SetRecord.{SetRecord}
use Rattle.span_tables.specs.declared.records.Commodity.{Commodity}
use Rattle.span_tables.specs.declared.records.Contract.{Contract}
use Rattle.span_tables.specs.declared.records.Tier.{Tier}
use Rattle.span_tables.specs.declared.records.IntraLeg.{IntraLeg}
use Rattle.span_tables.specs.declared.records.IntraRecord.{IntraRecord}
use Rattle.span_tables.specs.declared.records.Spot.{Spot}
use Rattle.span_tables.specs.declared.records.InterLeg.{InterLeg}
use Rattle.span_tables.specs.declared.records.InterRecord.{InterRecord}
use Rattle.span_tables.specs.declared.records.Record.{Record}
use Rattle.span_tables.specs.declared.legs.MonthLeg.{MonthLeg}
use Rattle.span_tables.specs.declared.records.Intra.{Intra}
use Rattle.span_tables.specs.declared.records.CommodityLeg.{CommodityLeg}
use Rattle.span_tables.specs.declared.records.Inter.{Inter}
use Rattle.span_tables.specs.declared.limits.TheConstants.{MAX_OPTION_VALUE}
use Rattle.span_tables.specs.declared.records.ProductKind.{ProductKind}
use Rattle.span_tables.specs.declared.records.ProductKind.TheVariants as product

-- the tables of an accepted parameter file
pub record AcceptedTables : Type 0 where
  pub set_id : List ℕ
  pub profile : ℕ
  pub currency : List ℕ
  pub commodities : List Commodity
  pub contracts : List Contract
  pub tiers : List Tier
  pub intra_records : List IntraRecord
  pub spots : List Spot
  pub inter_records : List InterRecord

-- x inserted into a list with rising keys
abbrev pub placed_by : {A : Type 0} → (A → ℕ) → A → List A → List A
placed_by key x [] = x ∷ []
placed_by key x (y ∷ ys) = if nat_le (key x) (key y) then x ∷ y ∷ ys else y ∷ placed_by key x ys

-- the elements sorted by rising key
abbrev pub rising_by : {A : Type 0} → (A → ℕ) → List A → List A
rising_by key [] = []
rising_by key (x ∷ xs) = placed_by key x (rising_by key xs)

-- the SET record
abbrev pub set_in : List Record → Option SetRecord
set_in rs = find (λ s. true) (filter_map as_set rs)

-- the id of the parameter set
abbrev pub set_id_in : List Record → List ℕ
set_id_in rs = unwrap_or (option_map (λ s. s.id) (set_in rs)) []

-- the profile of the parameter set
abbrev pub profile_in : List Record → ℕ
profile_in rs = unwrap_or (option_map (λ s. s.profile) (set_in rs)) 1

-- the currency of the parameter set
abbrev pub currency_in : List Record → List ℕ
currency_in rs = unwrap_or (option_map (λ s. s.currency) (set_in rs)) []

-- the tables of these records
unfoldable pub tables_of : List Record → AcceptedTables
tables_of rs = record {
  set_id = set_id_in rs;
  profile = profile_in rs;
  currency = currency_in rs;
  commodities = commodities_in rs;
  contracts = contracts_in rs;
  tiers = tiers_in rs;
  intra_records = rising_by (λ s. s.priority) (intras_in rs);
  spots = spots_in rs;
  inter_records = rising_by (λ s. s.priority) (inters_in rs);
}

-- the properties of the parameter set's profile
abbrev pub facts_in : AcceptedTables → ProfileFacts
facts_in t = facts_of t.profile

-- a leg with the months of its tier, or with no months if there is no such tier
abbrev pub month_leg : List Tier → List ℕ → IntraLeg → MonthLeg
month_leg tiers commodity leg =
    let tier = find (λ t. bytes_eq t.commodity commodity && (t.number == leg.tier)) tiers in
    record {
      first = unwrap_or (option_map (λ t. t.first) tier) 1;
      last = unwrap_or (option_map (λ t. t.last) tier) 0;
      side = leg.side;
      ratio = leg.ratio;
    }

-- an intracommodity spread with its tiers' months
abbrev pub intra_spread : List Tier → IntraRecord → Intra
intra_spread tiers s =
    record { priority = s.priority; rate = s.rate; legs = map (month_leg tiers s.commodity) s.legs.items }

-- the intracommodity spreads of a commodity, by rising priority
unfoldable pub intras_of : AcceptedTables → List ℕ → List Intra
intras_of tables commodity = map (intra_spread tables.tiers) (filter (λ s. bytes_eq s.commodity commodity) tables.intra_records)

-- the spot months of a commodity, in file order
unfoldable pub spots_of : AcceptedTables → List ℕ → List Spot
spots_of tables commodity = filter (λ s. bytes_eq s.commodity commodity) tables.spots

-- the tiers of a commodity, in file order
unfoldable pub tiers_of : AcceptedTables → List ℕ → List Tier
tiers_of tables commodity = filter (λ t. bytes_eq t.commodity commodity) tables.tiers

-- the tier has exactly the months of the leg
abbrev pub has_months : MonthLeg → Tier → Bool
has_months leg t = (t.first == leg.first) && (t.last == leg.last)

-- a leg with its commodity number
abbrev pub commodity_leg : List Commodity → InterLeg → CommodityLeg
commodity_leg commodities leg = record {
  commodity = position_or_len (λ c. bytes_eq c.id leg.commodity) commodities;
  side = leg.side;
  ratio = leg.ratio;
}

-- an intercommodity spread with its commodity numbers
abbrev pub inter_spread : List Commodity → InterRecord → Inter
inter_spread commodities s =
    record { priority = s.priority; basis_points = s.basis_points; legs = map (commodity_leg commodities) s.legs.items }

-- the intercommodity spreads, by rising priority
unfoldable pub inters_of : AcceptedTables → List Inter
inters_of tables = map (inter_spread tables.commodities) tables.inter_records

-- the largest option value of a product kind: 0 for a future
abbrev pub most_option_value : ProductKind → ℕ
most_option_value product.Future = 0
most_option_value product.Call = MAX_OPTION_VALUE
most_option_value product.Put = MAX_OPTION_VALUE

-- the id of the commodity with a number
abbrev pub commodity_id : AcceptedTables → ℕ → List ℕ
commodity_id t c = unwrap_or (option_map (λ x. x.id) (slice_get t.commodities c)) []
