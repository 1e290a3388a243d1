-- The records of a file by their kinds.
use Rattle.std.specs.Prelude.{◌≡◌, List}
use Rattle.span_tables.specs.Rules.{commodities_in, contracts_in, tiers_in, intras_in, spots_in, inters_in}
use Rattle.span_tables.specs.declared.records.Commodity.{Commodity}
use Rattle.span_tables.specs.declared.records.Contract.{Contract}
use Rattle.span_tables.specs.declared.records.Tier.{Tier}
use Rattle.span_tables.specs.declared.records.IntraRecord.{IntraRecord}
use Rattle.span_tables.specs.declared.records.Spot.{Spot}
use Rattle.span_tables.specs.declared.records.InterRecord.{InterRecord}
use Rattle.span_tables.specs.declared.records.Record.{Record}

-- the lists are the records of each kind, in file order
pub record AreByKind (records : List Record) (commodities : List Commodity) (contracts : List Contract) (tiers : List Tier)
    (intras : List IntraRecord) (spots : List Spot) (inters : List InterRecord) : Type 0 where
  pub commodities_are : commodities ≡ commodities_in records
  pub contracts_are : contracts ≡ contracts_in records
  pub tiers_are : tiers ≡ tiers_in records
  pub intras_are : intras ≡ intras_in records
  pub spots_are : spots ≡ spots_in records
  pub inters_are : inters ≡ inters_in records
