-- The tests that the code applies to fields, and the values that it reads from fields that pass.
use Rattle.std.specs.Prelude.{◌≡◌, ◌≤◌, ◌+◌, ◌*◌, ◌&&◌, ℕ, Bool, true, false, List, [], ◌∷◌, length, ⊤, ℤ, pos}
use Rattle.std.specs.Prelude.{drop, map, take, unwrap_or, Option, MatchOption}
use Rattle.std.specs.List.{list_all}
use Rattle.span_money.specs.Numbers.{whole_number}
use Rattle.span_tables.specs.declared.limits.TheConstants.{MAX_LEGS, MIN_LEGS, SCENARIOS}
use Rattle.span_csv.specs.Records.{Fields, has_word_form, has_number_form, is_in_range, text_at, product_at, all_have, legs_of}
use Rattle.span_csv.specs.Records.{array_place, extras_place, an_array_value, contract_back, contract_front, set_forms, commodity_forms}
use Rattle.span_csv.specs.Records.{tier_forms, intra_front, intra_leg_forms, spot_forms, inter_front, inter_leg_forms}
use Rattle.span_csv.specs.declared.grammar.FieldForm.{FieldForm}
use Rattle.span_csv.specs.declared.grammar.FieldTest.{FieldTest}
use Rattle.span_csv.specs.declared.grammar.FieldTest.TheVariants as field_test
use Rattle.span_csv.specs.declared.grammar.Kind.{Kind}
use Rattle.span_csv.specs.declared.grammar.Kind.TheVariants as kind

-- a text passes a test of its form
abbrev pub passes : FieldTest → FieldForm → List ℕ → Bool
passes field_test.Word = has_word_form
passes field_test.Number = has_number_form

-- a text passes all tests of its form
abbrev pub is_right : FieldForm → List ℕ → Bool
is_right form text = has_word_form form text && is_in_range form text

-- the fields from an index on pass all tests of these forms, one field for each form
abbrev pub are_right : List FieldForm → Fields → ℕ → Bool
are_right [] r i = true
are_right (form ∷ forms) r i = is_right form (text_at r i) && are_right forms r (i + 1)

-- the values of a CONTRACT's risk array
abbrev pub array_values : Fields → List ℤ
array_values r = map (λ text. unwrap_or (whole_number text) (pos 0)) (take SCENARIOS (drop array_place r))

-- the three fields of a leg, from an index on
abbrev pub leg_at : Fields → ℕ → Fields
leg_at r at = text_at r at ∷ text_at r (at + 1) ∷ text_at r (at + 2) ∷ []

-- from an index on, the record has the fields of 2 to 4 legs and no others
abbrev pub HasLegs : ℕ → Fields → Type 0
HasLegs from r = (legs : ℕ) × (MIN_LEGS ≤ legs) × (legs ≤ MAX_LEGS) × (length r ≡ from + 3 * legs)

-- a CONTRACT or a spread has as many fields as its kind may have under a profile
abbrev pub HasSize : Kind → ℕ → Fields → Type 0
HasSize kind.Contract profile r = length r ≡ extras_place + length (contract_back profile (product_at r 3))
HasSize kind.Intra profile r = HasLegs (1 + length intra_front) r
HasSize kind.Inter profile r = HasLegs (1 + length inter_front) r
HasSize _ profile r = ⊤

-- the fields of a CONTRACT after the first pass all tests under a profile
abbrev pub is_right_contract : ℕ → Fields → Bool
is_right_contract profile r =
    (are_right contract_front r 1 && list_all (is_right an_array_value) (take SCENARIOS (drop array_place r)))
    && are_right (contract_back profile (product_at r 3)) r extras_place

-- the fields of a spread after the first pass all tests: the front fields, and the fields of its legs
abbrev pub has_right_legs : List FieldForm → List FieldForm → Fields → Bool
has_right_legs front leg r = are_right front r 1 && list_all (all_have is_right leg) (legs_of (drop (1 + length front) r))

-- the fields of a record of a kind after the first pass all tests under a profile
abbrev pub is_right_record : Kind → ℕ → Fields → Bool
is_right_record kind.Set profile r = are_right set_forms r 1
is_right_record kind.Commodity profile r = are_right commodity_forms r 1
is_right_record kind.Contract profile r = is_right_contract profile r
is_right_record kind.Tier profile r = are_right tier_forms r 1
is_right_record kind.Intra profile r = has_right_legs intra_front intra_leg_forms r
is_right_record kind.Spot profile r = are_right spot_forms r 1
is_right_record kind.Inter profile r = has_right_legs inter_front inter_leg_forms r

-- the answer is this value if a test is passed, and otherwise nothing
abbrev pub IsRead : {A : Type 0} → Bool → A → Option A → Type 0
IsRead right value answer = MatchOption answer (right ≡ false) (λ x. (right ≡ true) × (x ≡ value))
