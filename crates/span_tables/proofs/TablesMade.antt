-- The lists that are computed from accepted tables in advance agree with the tables.
use Rattle.std.proofs.Common.{◌≡◌, ℕ, suc, zero, ◌<◌, true, List, [], ◌∷◌, Some, length, map, filter, get_or, refl, sym, ap, ◌∙◌, arith}
use Rattle.std.specs.Prelude.{bytes_eq, option_map, slice_get, unwrap_or}
use Rattle.std.proofs.lemmas.List.{length-map}
use Rattle.span_tables.specs.declared.contracts.Terms.{Terms}
use Rattle.span_tables.specs.near.Kept.{IsAccepted, IsTables, tables_from}
use Rattle.span_tables.specs.near.Terms.{terms_of}
use Rattle.span_tables.specs.Tables.{commodity_id, AcceptedTables, inter_spread, inters_of, intra_spread}
use Rattle.span_tables.specs.near.ByKind.{AreByKind}
use Rattle.span_tables.specs.near.Limits.{is_readable}
use Rattle.span_tables.specs.Rules.{keeps_rules}
use Rattle.span_tables.specs.Tables.{intras_of, rising_by, set_in, spots_of, tables_of, tiers_of}
use Rattle.span_tables.specs.declared.kinds.Kinds.{Kinds}
use Rattle.span_tables.specs.declared.records.Commodity.{Commodity}
use Rattle.span_tables.specs.declared.records.Contract.{Contract}
use Rattle.span_tables.specs.declared.records.Inter.{Inter}
use Rattle.span_tables.specs.declared.records.InterRecord.{InterRecord}
use Rattle.span_tables.specs.declared.records.Intra.{Intra}
use Rattle.span_tables.specs.declared.records.IntraRecord.{IntraRecord}
use Rattle.span_tables.specs.declared.records.Record.{Record}
use Rattle.span_tables.specs.declared.records.SetRecord.{SetRecord}
use Rattle.span_tables.specs.declared.records.Spot.{Spot}
use Rattle.span_tables.specs.declared.records.Tier.{Tier}
use Rattle.span_tables.proofs.WithinLimits.{accepted_limits}

-- the list of the name at index k
listed : {C Y : Type 0} (key : C → List ℕ) (g : List ℕ → List Y) (cs : List C) (k : ℕ) → k < length cs
    → get_or (map (λ c. g (key c)) cs) k [] ≡ g (unwrap_or (option_map key (slice_get cs k)) [])
listed key g [] k lt = absurd (omega arith)
listed key g (c ∷ cs) zero lt = refl
listed key g (c ∷ cs) (suc k) lt = listed key g cs k (omega arith)

module _ (t : AcceptedTables) (accepted : IsAccepted t) where
  intras_at : (intras : List (List Intra)) → intras
      ≡ map (λ c. map (intra_spread t.tiers) (filter (λ s. bytes_eq s.commodity c.id) t.intra_records)) t.commodities
      → (c : ℕ) → c < length t.commodities → get_or intras c [] ≡ intras_of t (commodity_id t c)
  unfolding intras_of
  intras_at intras is c lt =
      ap (λ (zs : List (List Intra)). get_or zs c []) is
      ∙ listed (λ (d : Commodity). d.id) (λ id. map (intra_spread t.tiers)
      (filter (λ (s : IntraRecord). bytes_eq s.commodity id) t.intra_records)) t.commodities c lt

  spots_at : (spots : List (List Spot)) → spots ≡ map (λ c. filter (λ s. bytes_eq s.commodity c.id) t.spots) t.commodities
      → (c : ℕ) → c < length t.commodities → get_or spots c [] ≡ spots_of t (commodity_id t c)
  unfolding spots_of
  spots_at spots is c lt =
      ap (λ (zs : List (List Spot)). get_or zs c []) is
      ∙ listed (λ (d : Commodity). d.id) (λ id. filter (λ (s : Spot). bytes_eq s.commodity id) t.spots) t.commodities c lt

  tiers_at : (tiers : List (List Tier)) → tiers ≡ map (λ c. filter (λ u. bytes_eq u.commodity c.id) t.tiers) t.commodities
      → (c : ℕ) → c < length t.commodities → get_or tiers c [] ≡ tiers_of t (commodity_id t c)
  unfolding tiers_of
  tiers_at tiers is c lt =
      ap (λ (zs : List (List Tier)). get_or zs c []) is
      ∙ listed (λ (d : Commodity). d.id) (λ id. filter (λ (u : Tier). bytes_eq u.commodity id) t.tiers) t.commodities c lt

  inters_all : (inters : List Inter) → inters ≡ map (inter_spread t.commodities) t.inter_records → inters ≡ inters_of t
  unfolding inters_of
  inters_all inters is = is

  pub are_tables : (terms : List Terms) (intras : List (List Intra)) (spots : List (List Spot)) (inters : List Inter)
      (tiers : List (List Tier))
      → terms ≡ map (terms_of t.commodities) t.contracts
      → intras ≡ map (λ c. map (intra_spread t.tiers) (filter (λ s. bytes_eq s.commodity c.id) t.intra_records)) t.commodities
      → spots ≡ map (λ c. filter (λ s. bytes_eq s.commodity c.id) t.spots) t.commodities
      → inters ≡ map (inter_spread t.commodities) t.inter_records
      → tiers ≡ map (λ c. filter (λ u. bytes_eq u.commodity c.id) t.tiers) t.commodities
      → IsTables t terms intras spots inters tiers
  are_tables terms intras spots inters tiers n i s x y = record {
    accepted = accepted;
    limits = accepted_limits t accepted;
    terms_are = n;
    every_intra = ap length i ∙ length-map t.commodities _;
    intras_are = intras_at intras i;
    every_spot = ap length s ∙ length-map t.commodities _;
    spots_are = spots_at spots s;
    inters_are = inters_all inters x;
    every_tier = ap length y ∙ length-map t.commodities _;
    tiers_are = tiers_at tiers y;
  }

-- the SET record, and the other records by kind with the spreads sorted, are the records of the tables
pub same_tables : (rs : List Record) (set : SetRecord) (cs : List Commodity) (xs : List Contract) (ts : List Tier)
    (is js : List IntraRecord) (ss : List Spot) (ns ms : List InterRecord)
    → set_in rs ≡ Some set → AreByKind rs cs xs ts is ss ns
    → js ≡ rising_by (λ s. s.priority) is → ms ≡ rising_by (λ s. s.priority) ns
    → record {
      set_id = set.id;
      profile = set.profile;
      currency = set.currency;
      commodities = cs;
      contracts = xs;
      tiers = ts;
      intra_records = js;
      spots = ss;
      inter_records = ms;
    } ≡ tables_of rs
unfolding tables_of
same_tables rs set cs xs ts is js ss ns ms first are i n =
    let intras_are = i ∙ ap (rising_by (λ (s : IntraRecord). s.priority)) are.intras_are in
    let inters_are = n ∙ ap (rising_by (λ (s : InterRecord). s.priority)) are.inters_are in
    λ k. record {
      set_id = unwrap_or (option_map (λ (s : SetRecord). s.id) (sym first k)) [];
      profile = unwrap_or (option_map (λ (s : SetRecord). s.profile) (sym first k)) 1;
      currency = unwrap_or (option_map (λ (s : SetRecord). s.currency) (sym first k)) [];
      commodities = are.commodities_are k;
      contracts = are.contracts_are k;
      tiers = are.tiers_are k;
      intra_records = intras_are k;
      spots = are.spots_are k;
      inter_records = inters_are k;
    }

-- accepted tables, from their parts
pub accepted_as : (t : AcceptedTables) (rs : List Record) → t ≡ tables_of rs → is_readable rs ≡ true → keeps_rules rs ≡ true
    → IsAccepted t
accepted_as t rs is readable kept = record { records = rs; tables = is; readable = readable; kept = kept }
