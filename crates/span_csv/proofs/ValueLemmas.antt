-- The values of a risk array, one after another.
use Rattle.std.proofs.Common.{◌≡◌, ◌≢◌, ◌<◌, ◌≤◌, ◌+◌, ◌∙◌, ◌&&◌, sym, ap, ap₂, arith, ℕ, true, false, List, [], length}
use Rattle.std.proofs.Common.{length-drop, get_or, take, drop, map, ℤ, pos, get_or-set_other, get_or-set_same, below_more}
use Rattle.std.proofs.lemmas.List.{ext_get_or, get_or-map, get_or-drop, get_or-take, length-take-le}
use Rattle.std.proofs.lemmas.List.Folds.{list_all_at, list_all_more}
use Rattle.std.proofs.Math.ListN.{set, length-map}
use Rattle.std.specs.List.{list_all}
use Rattle.std.specs.Prelude.{unwrap_or}
use Rattle.span_money.specs.Numbers.{whole_number}
use Rattle.span_tables.specs.declared.limits.TheConstants.{SCENARIOS}
use Rattle.span_csv.specs.declared.rows.TheConstants.{EXTRAS, FIRST_VALUE}
use Rattle.span_csv.specs.near.Grammar.{is_right}
use Rattle.span_csv.specs.Records.{Fields, an_array_value, text_at, whole_at}

-- one more value
pub values_more : (values : List ℤ) (i : ℕ) (v : ℤ) (fields : Fields) → i < length values → v ≡ whole_at fields (FIRST_VALUE + i)
    → ((k : ℕ) → k < i → get_or values k (pos 0) ≡ whole_at fields (FIRST_VALUE + k))
    → (k : ℕ) → k < i + 1 → get_or (set values i v) k (pos 0) ≡ whole_at fields (FIRST_VALUE + k)
values_more values i v fields inside is before =
    below_more _ _
    (λ k h. let ne : k ≢ i = omega arith in get_or-set_other values i k v (pos 0) ne ∙ before k h)
    (get_or-set_same values i v (pos 0) inside ∙ is)

-- all values
pub values_all : (values : List ℤ) (fields : Fields) → length values ≡ SCENARIOS → EXTRAS ≤ length fields
    → ((k : ℕ) → k < SCENARIOS → get_or values k (pos 0) ≡ whole_at fields (FIRST_VALUE + k))
    → values ≡ map (λ text. unwrap_or (whole_number text) (pos 0)) (take SCENARIOS (drop FIRST_VALUE fields))
values_all values fields sixteen all each =
    let number : List ℕ → ℤ = λ text. unwrap_or (whole_number text) (pos 0) in
    let behind = drop FIRST_VALUE fields in
    let enough : SCENARIOS ≤ length behind = omega (arith, length-drop FIRST_VALUE fields) in
    let left : length (take SCENARIOS behind) ≡ SCENARIOS = length-take-le SCENARIOS behind enough in
    ext_get_or (pos 0) values (map number (take SCENARIOS behind)) (simp length-map (omega arith))
    (λ i inside.
    let few : i < SCENARIOS = omega arith in
    let there : i < length (take SCENARIOS behind) = omega arith in
    each i few ∙ sym (get_or-map number (take SCENARIOS behind) i [] (pos 0) there
    ∙ ap number (get_or-take SCENARIOS behind i [] few ∙ get_or-drop FIRST_VALUE fields i [])))

-- ---- the test of the values

module _ (fields : Fields) (all : EXTRAS ≤ length fields) (i : ℕ) (few : i < SCENARIOS) where
  abbrev array : Fields
  array = drop FIRST_VALUE fields

  here : is_right an_array_value (get_or array i []) ≡ is_right an_array_value (text_at fields (FIRST_VALUE + i))
  here = ap (is_right an_array_value) (get_or-drop FIRST_VALUE fields i [])

  -- if the values before it are right and this one is, so is the prefix that ends with it
  pub value_right : is_right an_array_value (text_at fields (FIRST_VALUE + i)) ≡ true
      → list_all (is_right an_array_value) (take i array) ≡ true → list_all (is_right an_array_value) (take (i + 1) array) ≡ true
  value_right right before =
      let there : i < length array = omega (arith, length-drop FIRST_VALUE fields) in
      list_all_more (is_right an_array_value) array i [] there ∙ ap₂ (λ a b. a && b) before (here ∙ right)

  -- if a value is not right, the array is not
  pub value_failed : is_right an_array_value (text_at fields (FIRST_VALUE + i)) ≡ false
      → list_all (is_right an_array_value) (take SCENARIOS array) ≡ false
  value_failed fails =
      let enough : SCENARIOS ≤ length array = omega (arith, length-drop FIRST_VALUE fields) in
      let there : i < length (take SCENARIOS array) = omega (arith, length-take-le SCENARIOS array enough) in
      list_all_at (is_right an_array_value) (take SCENARIOS array) i [] there
      (ap (is_right an_array_value) (get_or-take SCENARIOS array i [] few) ∙ here ∙ fails)
