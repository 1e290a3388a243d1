-- The tables of readable records that keep the rules are within the limits.
use Rattle.std.proofs.Common.{◌≡◌, ◌<◌, ◌≤◌, true, false, List, [], length, map, sym, ◌∙◌, subst}
use Rattle.std.specs.Prelude.{All, bytes_eq}
use Rattle.std.specs.List.{AllByRecursion, list_all}
use Rattle.std.proofs.lemmas.Bool.{leb-true, and_parts}
use Rattle.std.proofs.lemmas.List.{length-map}
use Rattle.std.proofs.lemmas.List.Elements.{All-filter, All-map, All-weaker}
use Rattle.std.proofs.lemmas.List.Sorted.{All-permutation, length_permutation}
use Rattle.span_tables.specs.Accepted.{IsInter, IsIntra, IsSpot, IsWithinLimits, commodity_number}
use Rattle.span_tables.specs.near.Kept.{IsAccepted}
use Rattle.span_tables.specs.near.Limits.{at_most_each, begins_with_set, in_range, intra_in_range, is_readable}
use Rattle.span_tables.specs.Names.{has_repeat}
use Rattle.span_tables.specs.Rules.{as_commodity, as_contract, as_tier, commodities_in, contracts_in, inters_in}
use Rattle.span_tables.specs.Rules.{intras_in, keeps_rules, names_no_commodity, names_no_tier, repeats_leg, spots_in, tiers_in}
use Rattle.span_tables.specs.Tables.{AcceptedTables, commodity_leg, inter_spread, inters_of}
use Rattle.span_tables.specs.Tables.{intra_spread, intras_of, rising_by, spots_of, tables_of, tiers_of}
use Rattle.span_tables.specs.declared.limits.TheConstants.{MAX_COMMODITIES, MAX_CONTRACTS, MAX_INTER_SPREADS}
use Rattle.span_tables.specs.declared.limits.TheConstants.{MAX_INTRA_SPREADS, MAX_SPOT_MONTHS, MAX_TIERS, MAX_RATIO}
use Rattle.span_tables.specs.declared.records.Commodity.{Commodity}
use Rattle.span_tables.specs.declared.records.InterRecord.{InterRecord}
use Rattle.span_tables.specs.declared.records.IntraRecord.{IntraRecord}
use Rattle.span_tables.specs.declared.records.Record.{Record}
use Rattle.span_tables.specs.declared.records.Spot.{Spot}
use Rattle.span_tables.specs.declared.records.Tier.{Tier}
use Rattle.span_tables.proofs.Counts.{at_most, at_most_permuted}
use Rattle.span_tables.proofs.KeptRules.{all_kept, all_true, apart, of_each}
use Rattle.span_tables.proofs.Known.{IsKnown, NamesKnown, all_known, contracts_known, inters_apart}
use Rattle.span_tables.proofs.Known.{inters_known, intras_known, legs_apart, spots_known, tiers_known}
use Rattle.span_tables.proofs.OrderLaws.{rising_permutation}
use Rattle.span_tables.proofs.Ranges.{IsInterRecord, are_contracts, are_inters, are_intras, are_spots, is_intra}
use Rattle.span_tables.proofs.Ranges.{profile_within, rates_within}
use Rattle.span_tables.proofs.TierLists.{NamesTiers, all_named, apart_of, legs_named, overlap}

-- the conditions on readable records, one by one
pub record IsReadable (rs : List Record) : Type 0 where
  pub begins : begins_with_set rs ≡ true
  pub ranges : list_all in_range rs ≡ true
  pub few_commodities : length (commodities_in rs) ≤ MAX_COMMODITIES
  pub few_contracts : length (contracts_in rs) ≤ MAX_CONTRACTS
  pub few_inters : length (inters_in rs) ≤ MAX_INTER_SPREADS
  pub few_tiers : at_most_each MAX_TIERS (λ t. t.commodity) (tiers_in rs) ≡ true
  pub few_intras : at_most_each MAX_INTRA_SPREADS (λ s. s.commodity) (intras_in rs) ≡ true
  pub few_spots : at_most_each MAX_SPOT_MONTHS (λ s. s.commodity) (spots_in rs) ≡ true

pub readable : (rs : List Record) → is_readable rs ≡ true → IsReadable rs
unfolding is_readable
readable rs e =
    let parts = all_true _ _ _ (and_parts _ _ e).0 in
    let by_commodity = all_true _ _ _ parts.2 in
    let with_tiers = and_parts _ _ by_commodity.0 in
    let counts = all_true _ _ _ with_tiers.0 in
    record {
      begins = parts.0;
      ranges = parts.1;
      few_commodities = leb-true _ _ counts.0;
      few_contracts = leb-true _ _ counts.1;
      few_inters = leb-true _ _ counts.2;
      few_tiers = with_tiers.1;
      few_intras = by_commodity.1;
      few_spots = by_commodity.2;
    }

-- the rules that the tables need, one by one
pub record KeepsRules (rs : List Record) : Type 0 where
  pub commodities_apart : has_repeat (λ c d. bytes_eq c.id d.id) (commodities_in rs) ≡ false
  pub named : AllByRecursion (NamesKnown (commodities_in rs)) rs
  pub contracts_apart : has_repeat (λ x y. bytes_eq x.id y.id) (contracts_in rs) ≡ false
  pub tiers_apart : has_repeat overlap (tiers_in rs) ≡ false
  pub tiers_named : All (NamesTiers (tiers_in rs)) (intras_in rs)
  pub legs : AllByRecursion (λ r. repeats_leg r ≡ false) rs

pub kept : (rs : List Record) → keeps_rules rs ≡ true → KeepsRules rs
kept rs e =
    let k = all_kept rs e in
    record {
      commodities_apart = apart as_commodity (λ c d. bytes_eq c.id d.id) rs k.0;
      named = all_known rs rs (of_each (names_no_commodity rs) [] rs k.1.0);
      contracts_apart = apart as_contract (λ x y. bytes_eq x.id y.id) rs k.1.1.0;
      tiers_apart = apart as_tier overlap rs k.1.1.1.1.1.0;
      tiers_named = all_named rs rs (of_each (names_no_tier rs) [] rs k.1.1.1.1.1.1.0);
      legs = of_each repeats_leg [] rs k.1.1.1.1.1.1.1.0;
    }

all_both : {X : Type 0} (P Q R S : X → Type 0) (xs : List X) → ((x : X) → P x → Q x → R x → S x) → All P xs → All Q xs
    → All R xs → All S xs
all_both P Q R S xs f p q r = λ k d lt. f _ (p k d lt) (q k d lt) (r k d lt)

-- an intercommodity spread with its commodity numbers is within the limits
inter_within : (cs : List Commodity) → has_repeat (λ c d. bytes_eq c.id d.id) cs ≡ false → (s : InterRecord) → IsInterRecord s
    → All (λ leg. IsKnown cs leg.commodity) s.legs.items → has_repeat (λ a b. bytes_eq a.commodity b.commodity) s.legs.items ≡ false
    → IsInter (length cs) (inter_spread cs s)
inter_within cs apart s fields known legs =
    let long : length (map (commodity_leg cs) s.legs.items) ≡ length s.legs.items = length-map s.legs.items (commodity_leg cs) in
    record {
      basis_points = fields.basis_points;
      at_least_two = subst (λ n. 2 ≤ n) (sym long) fields.at_least_two;
      at_most_four = subst (λ n. n ≤ 4) (sym long) fields.at_most_four;
      ratios_above = All-map (λ leg. 0 < leg.ratio) (commodity_leg cs) s.legs.items fields.ratios_above;
      ratios_below = All-map (λ leg. leg.ratio ≤ MAX_RATIO) (commodity_leg cs) s.legs.items fields.ratios_below;
      known = All-map (λ leg. leg.commodity < length cs) (commodity_leg cs) s.legs.items known;
      apart = legs_apart cs apart s.legs.items known ∙ legs;
    }

-- the tables of readable records that keep the rules are within the limits
pub within_limits : (rs : List Record) → is_readable rs ≡ true → keeps_rules rs ≡ true → IsWithinLimits (tables_of rs)
unfolding tables_of intras_of spots_of tiers_of inters_of
within_limits rs is_r keeps =
    let r = readable rs is_r in
    let k = kept rs keeps in
    let cs = commodities_in rs in
    let intras_same = rising_permutation (λ (s : IntraRecord). s.priority) (intras_in rs) in
    let inters_same = rising_permutation (λ (s : InterRecord). s.priority) (inters_in rs) in
    record {
      profile = profile_within rs r.ranges;
      commodities = r.few_commodities;
      contracts = r.few_contracts;
      minimum_rates = rates_within rs r.ranges;
      commodities_apart = k.commodities_apart;
      contracts_in_range = are_contracts rs r.ranges;
      contracts_apart = k.contracts_apart;
      contracts_known = contracts_known cs rs k.named;
      few_intras =
          λ id. at_most_permuted (λ (s : IntraRecord). s.commodity) (intra_spread (tiers_in rs)) MAX_INTRA_SPREADS
          (intras_in rs) _ r.few_intras intras_same id;
      intras_in_range = λ id. All-map IsIntra (intra_spread (tiers_in rs)) _
          (All-filter _ (λ s. IsIntra (intra_spread (tiers_in rs) s))
          _ (All-permutation (λ s. IsIntra (intra_spread (tiers_in rs) s)) (intras_in rs) _ intras_same
          (All-weaker (λ s. intra_in_range s ≡ true) (λ s. IsIntra (intra_spread (tiers_in rs) s)) (is_intra (tiers_in rs))
          (intras_in rs) (are_intras rs r.ranges))));
      few_tiers = at_most (λ (t : Tier). t.commodity) MAX_TIERS (tiers_in rs) r.few_tiers;
      tiers_apart = λ id. apart_of id (tiers_in rs) k.tiers_apart;
      legs_known = λ id. legs_named id (tiers_in rs) (rising_by (λ (s : IntraRecord). s.priority) (intras_in rs))
          (All-permutation (NamesTiers (tiers_in rs)) (intras_in rs) _ intras_same k.tiers_named);
      few_spots = at_most (λ (s : Spot). s.commodity) MAX_SPOT_MONTHS (spots_in rs) r.few_spots;
      spots_in_range = λ id. All-filter _ IsSpot (spots_in rs) (are_spots rs r.ranges);
      few_inters =
          subst (λ n. n ≤ MAX_INTER_SPREADS)
          (sym (length-map (rising_by (λ (s : InterRecord). s.priority) (inters_in rs)) (inter_spread cs)
          ∙ length_permutation (inters_in rs) _ inters_same)) r.few_inters;
      inters_in_range =
          All-map (IsInter (length cs)) (inter_spread cs)
          _ (All-permutation (λ s. IsInter (length cs) (inter_spread cs s)) (inters_in rs) _ inters_same
          (all_both IsInterRecord (λ s. All (λ leg. IsKnown cs leg.commodity) s.legs.items)
          (λ s. has_repeat (λ a b. bytes_eq a.commodity b.commodity) s.legs.items ≡ false)
          (λ s. IsInter (length cs) (inter_spread cs s)) (inters_in rs) (λ s f n l. inter_within cs k.commodities_apart s f n l)
          (are_inters rs r.ranges) (inters_known cs rs k.named) (inters_apart rs k.legs)));
    }

-- ---- for accepted tables

pub accepted_limits : (t : AcceptedTables) → IsAccepted t → IsWithinLimits t
accepted_limits t a = subst IsWithinLimits (sym a.tables) (within_limits a.records a.readable a.kept)

pub accepted_tiers : (t : AcceptedTables) → IsAccepted t
    → All (λ x. commodity_number t.commodities x.commodity < length t.commodities) t.tiers
unfolding tables_of
accepted_tiers t a = rw a.tables (tiers_known (commodities_in a.records) a.records (kept a.records a.kept).named)

pub accepted_spots : (t : AcceptedTables) → IsAccepted t
    → All (λ x. commodity_number t.commodities x.commodity < length t.commodities) t.spots
unfolding tables_of
accepted_spots t a = rw a.tables (spots_known (commodities_in a.records) a.records (kept a.records a.kept).named)

pub accepted_intras : (t : AcceptedTables) → IsAccepted t
    → All (λ x. commodity_number t.commodities x.commodity < length t.commodities) t.intra_records
unfolding tables_of
accepted_intras t a =
    rw a.tables (All-permutation (λ (x : IntraRecord). IsKnown (commodities_in a.records) x.commodity) (intras_in a.records) _
    (rising_permutation (λ (s : IntraRecord). s.priority) (intras_in a.records))
    (intras_known (commodities_in a.records) a.records (kept a.records a.kept).named))
