-- The consequences of the field ranges for the records of each kind.
use Rattle.std.proofs.Common.{◌≡◌, ℕ, ◌<◌, ◌≤◌, Bool, true, arith, Option, List, [], ◌∷◌, length, map, sym, subst}
use Rattle.std.specs.Prelude.{All, MatchOption, filter_map, find, nat_abs, nat_le, option_map, unwrap_or}
use Rattle.std.specs.List.{AllByRecursion, list_all}
use Rattle.std.proofs.lemmas.Bool.{leb-true, and_parts}
use Rattle.std.proofs.lemmas.Bool.Decides.{Decides-eqb, nat_tests}
use Rattle.std.proofs.lemmas.List.{length-map}
use Rattle.std.proofs.lemmas.List.Elements.{All-nil, All-cons, All-head, All-map, All-weaker}
use Rattle.span_tables.specs.Accepted.{IsContract, IsIntra, IsSpot}
use Rattle.span_tables.specs.near.Limits.{commodity_in_range, contract_in_range, extras_in_range, in_range, inter_in_range}
use Rattle.span_tables.specs.near.Limits.{intra_in_range, lies_within, set_in_range, spot_in_range}
use Rattle.span_tables.specs.Tables.{most_option_value, intra_spread, month_leg, profile_in}
use Rattle.span_tables.specs.Rules.{as_commodity, as_contract, as_inter, as_intra, as_set, as_spot}
use Rattle.span_tables.specs.declared.limits.TheConstants.{MAX_ARRAY_VALUE, MAX_BASIS_POINTS, MAX_OPTION_VALUE}
use Rattle.span_tables.specs.declared.limits.TheConstants.{MAX_PROFILE, MAX_RATE, MAX_RATIO}
use Rattle.span_tables.specs.declared.records.Commodity.{Commodity}
use Rattle.span_tables.specs.declared.records.Contract.{Contract}
use Rattle.span_tables.specs.declared.records.ContractExtras.{ContractExtras}
use Rattle.span_tables.specs.declared.records.InterRecord.{InterRecord}
use Rattle.span_tables.specs.declared.records.IntraRecord.{IntraRecord}
use Rattle.span_tables.specs.declared.records.Record.{Record}
use Rattle.span_tables.specs.declared.records.Record.TheVariants as record_of
use Rattle.span_tables.specs.declared.records.ProductKind.{ProductKind}
use Rattle.span_tables.specs.declared.records.ProductKind.TheVariants as product
use Rattle.span_tables.specs.declared.records.SetRecord.{SetRecord}
use Rattle.span_tables.specs.declared.records.Spot.{Spot}
use Rattle.span_tables.specs.declared.records.Tier.{Tier}
use Rattle.span_tables.proofs.KeptRules.{all_true, of_kind}

-- if all elements pass a test, each has the property that the test implies
pub all_by : {X : Type 0} (p : X → Bool) (P : X → Type 0) → ((x : X) → p x ≡ true → P x) → (xs : List X)
    → list_all p xs ≡ true → All P xs
all_by p P says [] e = All-nil P
all_by p P says (x ∷ xs) e = let h = and_parts (p x) (list_all p xs) e in All-cons P x xs (says x h.0) (all_by p P says xs h.1)

pub by_recursion : {X : Type 0} (p : X → Bool) (xs : List X) → list_all p xs ≡ true → AllByRecursion (λ x. p x ≡ true) xs
by_recursion p [] e = tt
by_recursion p (x ∷ xs) e = let h = and_parts (p x) (list_all p xs) e in (h.0, by_recursion p xs h.1)

within : (low high n : ℕ) → lies_within low high n ≡ true → (low ≤ n) × (n ≤ high)
within low high n e = let h = and_parts (nat_le low n) (nat_le n high) e in (leb-true low n h.0, leb-true n high h.1)

-- ---- the records of each kind pass their tests

-- a record passes the test of a kind, if it is of that kind
abbrev PassesIf : {Y : Type 0} → (Y → Bool) → Option Y → Type 0
PassesIf test o = MatchOption o (Unit {0}) (λ y. test y ≡ true)

-- a record with its fields in range passes the test of its kind: set, commodity, contract, intra, spot or inter
abbrev Passes : Record → Type 0
Passes r =
    PassesIf set_in_range (as_set r) × PassesIf commodity_in_range (as_commodity r) × PassesIf contract_in_range (as_contract r)
    × PassesIf intra_in_range (as_intra r) × PassesIf spot_in_range (as_spot r) × PassesIf inter_in_range (as_inter r)

passes : (r : Record) → in_range r ≡ true → Passes r
passes (record_of.Set s) e = (e, tt, tt, tt, tt, tt)
passes (record_of.Commodity c) e = (tt, e, tt, tt, tt, tt)
passes (record_of.Contract c) e = (tt, tt, e, tt, tt, tt)
passes (record_of.Tier t) e = (tt, tt, tt, tt, tt, tt)
passes (record_of.Intra s) e = (tt, tt, tt, e, tt, tt)
passes (record_of.Spot s) e = (tt, tt, tt, tt, e, tt)
passes (record_of.Inter s) e = (tt, tt, tt, tt, tt, e)

-- all records of a kind pass its test
of_test : {Y : Type 0} (of : Record → Option Y) (test : Y → Bool) → ((r : Record) → Passes r → PassesIf test (of r))
    → (rs : List Record) → list_all in_range rs ≡ true → All (λ y. test y ≡ true) (filter_map of rs)
of_test of test pick rs e =
    of_kind of (λ y. test y ≡ true) (λ r. in_range r ≡ true) (λ r h. pick r (passes r h)) rs (by_recursion in_range rs e)

-- ---- the consequences of the tests

pub rate_within : (c : Commodity) → commodity_in_range c ≡ true → c.minimum_rate ≤ MAX_RATE
rate_within c e = leb-true _ _ (and_parts _ _ e).1

most_small : (kind : ProductKind) → most_option_value kind ≤ MAX_OPTION_VALUE
most_small product.Future = omega arith
most_small product.Call = omega arith
most_small product.Put = omega arith

value_within : (kind : ProductKind) (extras : ContractExtras) → extras_in_range kind extras ≡ true
    → extras.option_value ≤ most_option_value kind
value_within kind extras e = grind (arith, nat_tests)

pub is_contract : (x : Contract) → contract_in_range x ≡ true → IsContract x
is_contract x e =
    let last = all_true _ _ _ e in
    let middle = all_true _ _ _ last.0 in
    record {
      delta = leb-true _ _ (and_parts _ _ middle.0).1;
      scale = (within _ _ _ middle.1).1;
      sixteen = (Decides-eqb _ _).0 middle.2;
      values = all_by _ (λ v. nat_abs v ≤ MAX_ARRAY_VALUE) (λ v le. leb-true _ _ le) x.values last.1;
      option_value = omega (arith, value_within x.kind x.extras last.2, most_small x.kind);
    }

pub is_intra : (tiers : List Tier) (s : IntraRecord) → intra_in_range s ≡ true → IsIntra (intra_spread tiers s)
is_intra tiers s e =
    let last = all_true _ _ _ e in
    let few : (2 ≤ length s.legs.items) × (length s.legs.items ≤ 4) = within _ _ _ last.1 in
    let long : length (map (month_leg tiers s.commodity) s.legs.items) ≡ length s.legs.items =
    length-map s.legs.items (month_leg tiers s.commodity) in
    let ratios = all_by _ (λ leg. (1 ≤ leg.ratio) × (leg.ratio ≤ MAX_RATIO))
    (λ leg t. within 1 MAX_RATIO leg.ratio (and_parts _ _ t).1) s.legs.items last.2 in
    record {
      rate = leb-true _ _ (and_parts _ _ last.0).1;
      at_least_two = subst (λ n. 2 ≤ n) (sym long) few.0;
      at_most_four = subst (λ n. n ≤ 4) (sym long) few.1;
      ratios_above = All-map (λ leg. 0 < leg.ratio) (month_leg tiers s.commodity) s.legs.items (λ k z lt. (ratios k z lt).0);
      ratios_below = All-map (λ leg. leg.ratio ≤ MAX_RATIO) (month_leg tiers s.commodity) s.legs.items (λ k z lt. (ratios k z lt).1);
    }

pub is_spot : (s : Spot) → spot_in_range s ≡ true → IsSpot s
is_spot s e =
    let last = all_true _ _ _ e in record { spread_rate = leb-true _ _ last.1; outright_rate = leb-true _ _ last.2 }

-- the basis points, the number of legs and the leg ratios of an intercommodity spread are in range
pub record IsInterRecord (s : InterRecord) : Type 0 where
  pub basis_points : s.basis_points ≤ MAX_BASIS_POINTS
  pub at_least_two : 2 ≤ length s.legs.items
  pub at_most_four : length s.legs.items ≤ 4
  pub ratios_above : All (λ leg. 0 < leg.ratio) s.legs.items
  pub ratios_below : All (λ leg. leg.ratio ≤ MAX_RATIO) s.legs.items

pub is_inter : (s : InterRecord) → inter_in_range s ≡ true → IsInterRecord s
is_inter s e =
    let last = all_true _ _ _ e in
    let few : (2 ≤ length s.legs.items) × (length s.legs.items ≤ 4) = within _ _ _ last.1 in
    let ratios = all_by _ (λ leg. (1 ≤ leg.ratio) × (leg.ratio ≤ MAX_RATIO))
    (λ leg t. within 1 MAX_RATIO leg.ratio (and_parts _ _ t).1) s.legs.items last.2 in
    record {
      basis_points = leb-true _ _ (and_parts _ _ last.0).1;
      at_least_two = few.0;
      at_most_four = few.1;
      ratios_above = λ k z lt. (ratios k z lt).0;
      ratios_below = λ k z lt. (ratios k z lt).1;
    }

-- ---- for all records

first_profile : (ss : List SetRecord) → All (λ s. set_in_range s ≡ true) ss
    → unwrap_or (option_map (λ s. s.profile) (find (λ s. true) ss)) 1 ≤ MAX_PROFILE
first_profile [] all = omega arith
first_profile (s ∷ ss) all = (within 1 MAX_PROFILE s.profile (and_parts _ _ (All-head (λ x. set_in_range x ≡ true) s ss all)).1).1

pub profile_within : (rs : List Record) → list_all in_range rs ≡ true → profile_in rs ≤ MAX_PROFILE
profile_within rs e = first_profile (filter_map as_set rs) (of_test as_set set_in_range (λ r p. p.0) rs e)

pub rates_within : (rs : List Record) → list_all in_range rs ≡ true
    → All (λ c. c.minimum_rate ≤ MAX_RATE) (filter_map as_commodity rs)
rates_within rs e =
    All-weaker (λ c. commodity_in_range c ≡ true) _ rate_within _ (of_test as_commodity commodity_in_range (λ r p. p.1) rs e)

pub are_contracts : (rs : List Record) → list_all in_range rs ≡ true → All IsContract (filter_map as_contract rs)
are_contracts rs e =
    All-weaker (λ c. contract_in_range c ≡ true) _ is_contract _ (of_test as_contract contract_in_range (λ r p. p.2) rs e)

pub are_intras : (rs : List Record) → list_all in_range rs ≡ true → All (λ s. intra_in_range s ≡ true) (filter_map as_intra rs)
are_intras = of_test as_intra intra_in_range (λ r p. p.3)

pub are_spots : (rs : List Record) → list_all in_range rs ≡ true → All IsSpot (filter_map as_spot rs)
are_spots rs e = All-weaker (λ s. spot_in_range s ≡ true) _ is_spot _ (of_test as_spot spot_in_range (λ r p. p.4) rs e)

pub are_inters : (rs : List Record) → list_all in_range rs ≡ true → All IsInterRecord (filter_map as_inter rs)
are_inters rs e = All-weaker (λ s. inter_in_range s ≡ true) _ is_inter _ (of_test as_inter inter_in_range (λ r p. p.5) rs e)
