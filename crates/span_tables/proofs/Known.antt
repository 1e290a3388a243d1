-- Each commodity that a record names is a commodity of the file.
use Rattle.std.proofs.Common.{◌≡◌, ℕ, ◌<◌, false, eqb, not, Option, List, [], ◌∷◌, length, map, refl, ap, ◌∙◌, arith}
use Rattle.std.specs.Prelude.{All, MatchOption, ◌||◌, ◌==◌, bytes_eq, filter_map}
use Rattle.std.specs.List.{AllByRecursion, list_any}
use Rattle.std.proofs.lemmas.Bool.{not-false, or_parts}
use Rattle.std.proofs.lemmas.List.Elements.{All-nil, All-cons, All-head, All-tail}
use Rattle.span_tables.specs.Accepted.{commodity_number}
use Rattle.span_tables.specs.Names.{has_repeat}
use Rattle.span_tables.specs.Rules.{as_contract, as_inter, as_intra, as_spot, as_tier, commodities_in}
use Rattle.span_tables.specs.Rules.{named_commodities, names_no_commodity, repeats_leg}
use Rattle.span_tables.specs.Tables.{commodity_leg}
use Rattle.span_tables.specs.declared.records.Commodity.{Commodity}
use Rattle.span_tables.specs.declared.records.CommodityLeg.{CommodityLeg}
use Rattle.span_tables.specs.declared.records.InterLeg.{InterLeg}
use Rattle.span_tables.specs.declared.records.Record.{Record}
use Rattle.span_tables.specs.declared.records.Record.TheVariants as record_of
use Rattle.span_tables.proofs.KeptRules.{of_kind}
use Rattle.span_tables.proofs.Places.{name_at, place_key, place_names}
use Rattle.span_tables.proofs.TierLists.{position_known}

-- a name is the name of a commodity
abbrev pub IsKnown : List Commodity → List ℕ → Type 0
IsKnown cs name = commodity_number cs name < length cs

names_known : (cs : List Commodity) (names : List (List ℕ))
    → list_any (λ name. not (list_any (λ c. bytes_eq c.id name) cs)) names ≡ false → All (IsKnown cs) names
names_known cs [] e = All-nil (IsKnown cs)
names_known cs (name ∷ names) e =
    let h = or_parts (not (list_any (λ c. bytes_eq c.id name) cs)) (list_any (λ n. not (list_any (λ c. bytes_eq c.id n) cs)) names) e in
    All-cons (IsKnown cs) name names (position_known (λ c. bytes_eq c.id name) cs (not-false _ h.0)) (names_known cs names h.1)

-- the commodities that a record names are known
abbrev pub NamesKnown : List Commodity → Record → Type 0
NamesKnown cs r = All (IsKnown cs) (named_commodities r)

module _ (cs : List Commodity) where
  -- the commodity of a record is known, if the record is of the kind
  abbrev KnownIf : {Y : Type 0} → (Y → List ℕ) → Option Y → Type 0
  KnownIf commodity o = MatchOption o (Unit {0}) (λ y. IsKnown cs (commodity y))

  -- the commodity of a contract, a tier, an intra or a spot
  one_known : (r : Record) → NamesKnown cs r
      → KnownIf (λ x. x.commodity) (as_contract r) × KnownIf (λ x. x.commodity) (as_tier r)
      × KnownIf (λ x. x.commodity) (as_intra r) × KnownIf (λ x. x.commodity) (as_spot r)
  one_known (record_of.Contract x) k = (All-head (IsKnown cs) x.commodity [] k, tt, tt, tt)
  one_known (record_of.Tier x) k = (tt, All-head (IsKnown cs) x.commodity [] k, tt, tt)
  one_known (record_of.Intra x) k = (tt, tt, All-head (IsKnown cs) x.commodity [] k, tt)
  one_known (record_of.Spot x) k = (tt, tt, tt, All-head (IsKnown cs) x.commodity [] k)
  one_known _ k = (tt, tt, tt, tt)

  legs_known : (legs : List InterLeg) → All (IsKnown cs) (map (λ leg. leg.commodity) legs)
      → All (λ leg. IsKnown cs leg.commodity) legs
  legs_known [] k = All-nil (λ (leg : InterLeg). IsKnown cs leg.commodity)
  legs_known (leg ∷ legs) k =
      All-cons (λ (l : InterLeg). IsKnown cs l.commodity) leg legs
      (All-head (IsKnown cs) leg.commodity (map (λ (l : InterLeg). l.commodity) legs) k)
      (legs_known legs (All-tail (IsKnown cs) leg.commodity (map (λ (l : InterLeg). l.commodity) legs) k))

  inter_known : (r : Record) → NamesKnown cs r
      → MatchOption (as_inter r) (Unit {0}) (λ x. All (λ leg. IsKnown cs leg.commodity) x.legs.items)
  inter_known (record_of.Inter x) k = legs_known x.legs.items k
  inter_known _ k = tt

  pub contracts_known : (rs : List Record) → AllByRecursion (NamesKnown cs) rs
      → All (λ x. IsKnown cs x.commodity) (filter_map as_contract rs)
  contracts_known = of_kind as_contract _ (NamesKnown cs) (λ r k. (one_known r k).0)

  pub tiers_known : (rs : List Record) → AllByRecursion (NamesKnown cs) rs → All (λ x. IsKnown cs x.commodity) (filter_map as_tier rs)
  tiers_known = of_kind as_tier _ (NamesKnown cs) (λ r k. (one_known r k).1)

  pub intras_known : (rs : List Record) → AllByRecursion (NamesKnown cs) rs
      → All (λ x. IsKnown cs x.commodity) (filter_map as_intra rs)
  intras_known = of_kind as_intra _ (NamesKnown cs) (λ r k. (one_known r k).2)

  pub spots_known : (rs : List Record) → AllByRecursion (NamesKnown cs) rs → All (λ x. IsKnown cs x.commodity) (filter_map as_spot rs)
  spots_known = of_kind as_spot _ (NamesKnown cs) (λ r k. (one_known r k).3)

  pub inters_known : (rs : List Record) → AllByRecursion (NamesKnown cs) rs
      → All (λ x. All (λ leg. IsKnown cs leg.commodity) x.legs.items) (filter_map as_inter rs)
  inters_known = of_kind as_inter _ (NamesKnown cs) inter_known

-- if no record names a commodity that does not exist, each record names only known commodities
pub all_known : (all rs : List Record) → AllByRecursion (λ r. names_no_commodity all r ≡ false) rs
    → AllByRecursion (NamesKnown (commodities_in all)) rs
all_known all [] u = tt
all_known all (r ∷ rs) u = (names_known (commodities_in all) (named_commodities r) u.0, all_known all rs u.1)

-- ---- two legs of one commodity

legs_apart_each : (r : Record) → repeats_leg r ≡ false
    → MatchOption (as_inter r) (Unit {0}) (λ s. has_repeat (λ a b. bytes_eq a.commodity b.commodity) s.legs.items ≡ false)
legs_apart_each (record_of.Inter s) e = e
legs_apart_each _ e = tt

pub inters_apart : (rs : List Record) → AllByRecursion (λ r. repeats_leg r ≡ false) rs
    → All (λ s. has_repeat (λ a b. bytes_eq a.commodity b.commodity) s.legs.items ≡ false) (filter_map as_inter rs)
inters_apart = of_kind as_inter _ (λ r. repeats_leg r ≡ false) legs_apart_each

-- known names have the same index if and only if they are equal
same_place : (cs : List Commodity) (a b : List ℕ) → has_repeat (λ c d. bytes_eq c.id d.id) cs ≡ false → IsKnown cs b
    → eqb (commodity_number cs a) (commodity_number cs b) ≡ bytes_eq a b
same_place [] a b apart known = absurd (omega arith)
same_place (c ∷ cs) a b apart known =
    place_names (λ (d : Commodity). d.id) (c ∷ cs) a (commodity_number (c ∷ cs) b) apart known
    ∙ ap (bytes_eq a) (name_at (λ (d : Commodity). d.id) (c ∷ cs) (commodity_number (c ∷ cs) b) c known
    ∙ place_key (λ (d : Commodity). d.id) (c ∷ cs) b c known)

module _ (cs : List Commodity) (apart : has_repeat (λ c d. bytes_eq c.id d.id) cs ≡ false) where
  any_same : (a : InterLeg) (legs : List InterLeg) → All (λ leg. IsKnown cs leg.commodity) legs
      → list_any (λ (b : CommodityLeg). (commodity_number cs a.commodity) == b.commodity) (map (commodity_leg cs) legs)
      ≡ list_any (λ b. bytes_eq a.commodity b.commodity) legs
  any_same a [] k = refl
  any_same a (b ∷ legs) k =
      let here = same_place cs a.commodity b.commodity apart (All-head (λ (leg : InterLeg). IsKnown cs leg.commodity) b legs k) in
      let rest = any_same a legs (All-tail (λ (leg : InterLeg). IsKnown cs leg.commodity) b legs k) in
      λ i. here i || rest i

  -- legs repeat a commodity number if and only if they repeat a commodity
  pub legs_apart : (legs : List InterLeg) → All (λ leg. IsKnown cs leg.commodity) legs
      → has_repeat (λ (a b : CommodityLeg). a.commodity == b.commodity) (map (commodity_leg cs) legs)
      ≡ has_repeat (λ a b. bytes_eq a.commodity b.commodity) legs
  legs_apart [] k = refl
  legs_apart (a ∷ legs) k =
      let here = any_same a legs (All-tail (λ (leg : InterLeg). IsKnown cs leg.commodity) a legs k) in
      let rest = legs_apart legs (All-tail (λ (leg : InterLeg). IsKnown cs leg.commodity) a legs k) in
      λ i. here i || rest i
