-- The type invariant of accepted tables.
use Rattle.std.specs.Prelude.{◌≡◌, true, List, ℕ, ◌<◌, [], length, map, slice_index_or}
use Rattle.span_tables.specs.Rules.{keeps_rules}
use Rattle.span_tables.specs.near.Limits.{is_readable}
use Rattle.span_tables.specs.Tables.{AcceptedTables, tables_of, intras_of, spots_of, tiers_of, inters_of, commodity_id}
use Rattle.span_tables.specs.declared.kinds.Kinds.{Kinds}
use Rattle.span_tables.specs.declared.records.Record.{Record}
use Rattle.span_tables.specs.declared.records.SetRecord.{SetRecord}
use Rattle.span_tables.specs.declared.records.Spot.{Spot}
use Rattle.span_tables.specs.declared.records.Intra.{Intra}
use Rattle.span_tables.specs.declared.records.Inter.{Inter}
use Rattle.span_tables.specs.declared.records.Tier.{Tier}
use Rattle.span_tables.specs.Accepted.{IsWithinLimits}
use Rattle.span_tables.specs.declared.contracts.Terms.{Terms}
use Rattle.span_tables.specs.near.Terms.{terms_of}

-- the tables of a SET record and the other records, listed by kind
abbrev pub tables_from : SetRecord → Kinds → AcceptedTables
tables_from set kinds = record {
  set_id = set.id;
  profile = set.profile;
  currency = set.currency;
  commodities = kinds.commodities.items;
  contracts = kinds.contracts.items;
  tiers = kinds.tiers.items;
  intra_records = kinds.intras.items;
  spots = kinds.spots.items;
  inter_records = kinds.inters.items;
}

-- the tables are made of readable records that keep the rules
pub record IsAccepted (t : AcceptedTables) : Type 0 where
  pub records : List Record
  pub tables : t ≡ tables_of records
  pub readable : is_readable records ≡ true
  pub kept : keeps_rules records ≡ true

-- accepted tables, with the terms of each contract, the spreads and spot months of each commodity, the intercommodity
-- spreads, and the tiers of each commodity
pub record IsTables (t : AcceptedTables) (terms : List Terms) (intras : List (List Intra)) (spots : List (List Spot))
    (inters : List Inter) (tiers : List (List Tier)) : Type 0 where
  pub accepted : IsAccepted t
  pub limits : IsWithinLimits t
  pub terms_are : terms ≡ map (terms_of t.commodities) t.contracts
  pub every_intra : length intras ≡ length t.commodities
  pub intras_are : (c : ℕ) → c < length t.commodities → slice_index_or intras c [] ≡ intras_of t (commodity_id t c)
  pub every_spot : length spots ≡ length t.commodities
  pub spots_are : (c : ℕ) → c < length t.commodities → slice_index_or spots c [] ≡ spots_of t (commodity_id t c)
  pub inters_are : inters ≡ inters_of t
  pub every_tier : length tiers ≡ length t.commodities
  pub tiers_are : (c : ℕ) → c < length t.commodities → slice_index_or tiers c [] ≡ tiers_of t (commodity_id t c)
