-- A record whose fields have their forms is in its ranges.
use Rattle.std.proofs.Common.{◌≡◌, ◌≤◌, ◌+◌, ◌-◌, ◌*◌, ◌∙◌, ◌&&◌, refl, arith, inl, inr, ℕ, suc, zero, Bool, true, Some, pos, neg_ℤ}
use Rattle.std.proofs.Common.{List, [], ◌∷◌, length, take, drop, map}
use Rattle.std.specs.Prelude.{nat_le, nat_abs, slice_get, unwrap_or}
use Rattle.std.specs.List.{list_all}
use Rattle.std.proofs.lemmas.Bool.{and_parts, and_from, le-leb, eq-eqb, cases_Bool}
use Rattle.std.proofs.lemmas.List.{length-map, length-drop, length-take-le}
use Rattle.std.proofs.lemmas.List.Folds.{list_all-map}
use Rattle.span_money.specs.Numbers.{whole_number, decimal_number, is_month}
use Rattle.span_tables.specs.Names.{is_name}
use Rattle.span_tables.specs.near.Limits.{lies_within, in_range, is_tier_number, is_ratio}
use Rattle.span_tables.specs.Tables.{most_option_value}
use Rattle.span_tables.specs.Profiles.{facts_of}
use Rattle.span_tables.specs.declared.limits.TheConstants.{MAX_ARRAY_VALUE, MAX_BASIS_POINTS, MAX_DELTA, MAX_PRIORITY}
use Rattle.span_tables.specs.declared.limits.TheConstants.{SCENARIOS, MAX_PROFILE, MAX_RATE, MAX_RATIO, MAX_SCALE, MAX_TIER_NUMBER}
use Rattle.span_tables.specs.declared.records.IntraLeg.{IntraLeg}
use Rattle.span_tables.specs.declared.records.InterLeg.{InterLeg}
use Rattle.span_csv.specs.near.Grammar.{HasLegs, HasSize, are_right, has_right_legs, is_right, is_right_record}
use Rattle.span_csv.specs.Records.{Fields, all_have, an_array_value, an_option_value, array_place, contract_back, contract_front}
use Rattle.span_csv.specs.Records.{commodity_forms, inter_front, inter_leg_forms, intra_front, intra_leg_forms, set_forms, spot_forms}
use Rattle.span_csv.specs.Records.{tier_forms, text_at, count_at, extras_place, intra_leg, inter_leg, legs_of, product_at, record_of_kind}
use Rattle.span_csv.specs.declared.grammar.FieldForm.{FieldForm}
use Rattle.span_csv.specs.declared.grammar.FieldForm.TheVariants as form
use Rattle.span_csv.specs.declared.grammar.Kind.{Kind}
use Rattle.span_csv.specs.declared.grammar.Kind.TheVariants as kind
use Rattle.span_csv.proofs.FormLemmas.{count_past, count_within, count_below, month_within, right_at, size_within}
use Rattle.span_csv.proofs.LegLemmas.{legs_all}

-- ---- fields

module _ (forms : List FieldForm) (r : Fields) (right : are_right forms r 1 ≡ true) where
  name : (i : ℕ) → slice_get forms i ≡ Some form.Name → is_name (text_at r (1 + i)) ≡ true
  name i is = (and_parts (is_name (text_at r (1 + i))) true (right_at forms r 1 i form.Name right is)).0

  whole : (i low high : ℕ) → slice_get forms i ≡ Some (form.Whole (pos low) (pos high))
      → lies_within low high (count_at r (1 + i)) ≡ true
  whole i low high is =
      count_within low high (whole_number (text_at r (1 + i))) (right_at forms r 1 i (form.Whole (pos low) (pos high)) right is)

  below : (i high : ℕ) → slice_get forms i ≡ Some (form.Whole (pos 0) (pos high)) → nat_le (count_at r (1 + i)) high ≡ true
  below i high is =
      count_below high (whole_number (text_at r (1 + i))) (right_at forms r 1 i (form.Whole (pos 0) (pos high)) right is)

  month : (i : ℕ) → slice_get forms i ≡ Some form.Month → is_month (count_at r (1 + i)) ≡ true
  month i is = month_within (text_at r (1 + i)) (right_at forms r 1 i form.Month right is)

-- ---- a CONTRACT

values_in_range : (texts : Fields) → list_all (is_right an_array_value) texts ≡ true
    → list_all (λ v. nat_le (nat_abs v) MAX_ARRAY_VALUE) (map (λ text. unwrap_or (whole_number text) (pos 0)) texts) ≡ true
values_in_range [] all = refl
values_in_range (text ∷ texts) all =
    let parts = and_parts (is_right an_array_value text) (list_all (is_right an_array_value) texts) all in
    and_from _ _ (size_within (MAX_ARRAY_VALUE - 1) (whole_number text) parts.0) (values_in_range texts parts.1)

-- a record of a kind is in its ranges
abbrev Keeps : Kind → Fields → Type 0
Keeps kind r = in_range (record_of_kind kind r) ≡ true

module _ (profile : ℕ) (r : Fields) (size : HasSize kind.Contract profile r) (right : is_right_record kind.Contract profile r ≡ true) where
  abbrev array : Fields
  array = take SCENARIOS (drop array_place r)

  parts : ((are_right contract_front r 1 && list_all (is_right an_array_value) array) ≡ true)
      × (are_right (contract_back profile (product_at r 3)) r extras_place ≡ true)
  parts = and_parts _ _ right

  fields : (are_right contract_front r 1 ≡ true) × (list_all (is_right an_array_value) array ≡ true)
  fields = and_parts _ _ parts.0

  value_in_range : nat_le (count_at r extras_place) (most_option_value (product_at r 3)) ≡ true
  value_in_range =
      let most = most_option_value (product_at r 3) in
      elim (cases_Bool (facts_of profile).options_have_value) [
        | inl valued ↦
            let field = and_parts (is_right (an_option_value (product_at r 3)) (text_at r extras_place)) true (rw valued at parts.1) in
            count_below most (whole_number (text_at r extras_place)) field.0
        | inr plain ↦
            let long = rw plain at size in
            let none = count_past r extras_place (omega (arith, long)) in
            le-leb (count_at r extras_place) most (omega (arith, none))
      ]

  contract_kept : Keeps kind.Contract r
  contract_kept =
      let enough : SCENARIOS ≤ length (drop array_place r) = omega (arith, size, length-drop array_place r) in
      let count : length (map (λ text. unwrap_or (whole_number text) (pos 0)) array) ≡ SCENARIOS =
      length-map array (λ text. unwrap_or (whole_number text) (pos 0)) ∙ length-take-le SCENARIOS (drop array_place r) enough in
      let names = and_from _ _ (name contract_front r fields.0 0 refl) (name contract_front r fields.0 1 refl) in
      let delta = size_within (MAX_DELTA - 1) (decimal_number (text_at r 5))
      (right_at contract_front r 1 4 (form.Decimal (neg_ℤ (pos MAX_DELTA)) (pos MAX_DELTA)) fields.0 refl) in
      let scale = count_within 1 MAX_SCALE (decimal_number (text_at r 6))
      (right_at contract_front r 1 5 (form.Decimal (pos 1) (pos MAX_SCALE)) fields.0 refl) in
      and_from _ _
      (and_from _ _
      (and_from _ _ (and_from _ _ (and_from _ _ (and_from _ _ names (month contract_front r fields.0 3 refl)) delta) scale)
      (eq-eqb _ SCENARIOS count))
      (values_in_range array fields.1))
      value_in_range

-- ---- legs

length-legs_of : (k : ℕ) (xs : Fields) → length xs ≡ k * 3 → length (legs_of xs) ≡ k
length-legs_of zero [] len = refl
length-legs_of zero (x ∷ xs) len = absurd (omega (arith, len))
length-legs_of (suc k) [] len = absurd (omega (arith, len))
length-legs_of (suc k) (x ∷ []) len = absurd (omega (arith, len))
length-legs_of (suc k) (x ∷ y ∷ []) len = absurd (omega (arith, len))
length-legs_of (suc k) (x ∷ y ∷ z ∷ xs) len = let rest = length-legs_of k xs (omega (arith, len)) in omega (arith, rest)

-- legs after other fields: there are 2 to 4, and each passes a test
legs_kept : {L : Type 0} (leg : Fields → L) (passes : L → Bool) (from : ℕ) (a c : FieldForm) (r : Fields)
    → ((x y z : List ℕ) → is_right a x ≡ true → is_right c z ≡ true → passes (leg (x ∷ y ∷ z ∷ [])) ≡ true)
    → HasLegs from r → list_all (all_have is_right (a ∷ form.Side ∷ c ∷ [])) (legs_of (drop from r)) ≡ true
    → (lies_within 2 4 (length (map leg (legs_of (drop from r)))) ≡ true) × (list_all passes (map leg (legs_of (drop from r))) ≡ true)
legs_kept leg passes from a c r says size right =
    let xs = drop from r in
    let threes : length xs ≡ size.0 * 3 = omega (arith, size.3, length-drop from r) in
    let n = length (map leg (legs_of xs)) in
    let count : n ≡ size.0 = length-map (legs_of xs) leg ∙ length-legs_of size.0 xs threes in (
      and_from (nat_le 2 n) (nat_le n 4) (le-leb 2 n (omega (arith, count, size.1))) (le-leb n 4 (omega (arith, count, size.2))),
      list_all-map passes leg (legs_of xs) ∙ legs_all (λ l. passes (leg l)) a form.Side c says xs right,
    )

intra_kept : (r : Fields) → HasLegs (1 + length intra_front) r → has_right_legs intra_front intra_leg_forms r ≡ true
    → Keeps kind.Intra r
intra_kept r size right =
    let parts = and_parts (are_right intra_front r 1) _ right in
    let legs = legs_kept intra_leg (λ (leg : IntraLeg). is_tier_number leg.tier && is_ratio leg.ratio) 4
    (form.Whole (pos 1) (pos MAX_TIER_NUMBER)) (form.Decimal (pos 1) (pos MAX_RATIO)) r
    (λ x y z number ratio.
    and_from _ _ (count_within 1 MAX_TIER_NUMBER (whole_number x) number) (count_within 1 MAX_RATIO (decimal_number z) ratio))
    size parts.1 in
    let front = and_from _ _ (name intra_front r parts.0 0 refl) (whole intra_front r parts.0 1 1 MAX_PRIORITY refl) in
    and_from _ _ (and_from _ _ (and_from _ _ front (below intra_front r parts.0 2 MAX_RATE refl)) legs.0) legs.1

inter_kept : (r : Fields) → HasLegs (1 + length inter_front) r → has_right_legs inter_front inter_leg_forms r ≡ true
    → Keeps kind.Inter r
inter_kept r size right =
    let parts = and_parts (are_right inter_front r 1) _ right in
    let legs = legs_kept inter_leg (λ (leg : InterLeg). is_name leg.commodity && is_ratio leg.ratio) 3
    form.Name (form.Decimal (pos 1) (pos MAX_RATIO)) r
    (λ x y z id ratio. and_from _ _ (and_parts (is_name x) true id).0 (count_within 1 MAX_RATIO (decimal_number z) ratio))
    size parts.1 in
    let front = and_from _ _ (whole inter_front r parts.0 0 1 MAX_PRIORITY refl) (below inter_front r parts.0 1 MAX_BASIS_POINTS refl) in
    and_from _ _ (and_from _ _ front legs.0) legs.1

-- ---- all kinds

-- a record of a kind whose fields have its forms
pub kept : (kind : Kind) (profile : ℕ) (r : Fields) → HasSize kind profile r → is_right_record kind profile r ≡ true → Keeps kind r
kept kind.Set profile r size right =
    and_from _ _ (name set_forms r right 0 refl) (whole set_forms r right 1 1 MAX_PROFILE refl)
kept kind.Commodity profile r size right =
    and_from _ _ (name commodity_forms r right 0 refl) (below commodity_forms r right 1 MAX_RATE refl)
kept kind.Contract profile r size right = contract_kept profile r size right
kept kind.Tier profile r size right =
    let number = and_from _ _ (name tier_forms r right 0 refl) (whole tier_forms r right 1 1 MAX_TIER_NUMBER refl) in
    and_from _ _ (and_from _ _ number (month tier_forms r right 2 refl)) (month tier_forms r right 3 refl)
kept kind.Intra profile r size right = intra_kept r size right
kept kind.Spot profile r size right =
    let front = and_from _ _ (name spot_forms r right 0 refl) (month spot_forms r right 1 refl) in
    and_from _ _ (and_from _ _ front (below spot_forms r right 2 MAX_RATE refl)) (below spot_forms r right 3 MAX_RATE refl)
kept kind.Inter profile r size right = inter_kept r size right
