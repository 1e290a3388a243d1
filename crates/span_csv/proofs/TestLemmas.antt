-- Tests of all fields of a record, one field after another.
use Rattle.std.proofs.Common.{◌≡◌, ◌<◌, ◌≤◌, ◌+◌, ◌&&◌, ◌∙◌, sym, ap, ap₂, arith, ℕ, Bool, true}
use Rattle.std.proofs.Common.{List, [], ◌∷◌, ◌++◌, length, length-append, get_or, drop, refl}
use Rattle.std.specs.List.{repeat}
use Rattle.std.proofs.lemmas.List.{at_drop_more, at_drop_all, drop-drop, get_or-drop, length-drop}
use Rattle.span_tables.specs.declared.limits.TheConstants.{SCENARIOS}
use Rattle.span_csv.specs.near.Grammar.{is_right, is_right_contract}
use Rattle.span_csv.specs.Records.{Fields, all_have, an_array_value, array_place, contract_back, contract_forms, contract_front}
use Rattle.span_csv.specs.Records.{product_at, text_at}
use Rattle.span_csv.specs.declared.rows.TheConstants.{EXTRAS}
use Rattle.span_csv.specs.declared.grammar.FieldForm.{FieldForm}
use Rattle.span_csv.specs.declared.grammar.FieldForm.TheVariants as form
use Rattle.span_csv.proofs.FormLemmas.{all_have-append, all_have-repeat, are_right_all}

module _ (test : FieldForm → List ℕ → Bool) (forms : List FieldForm) (fields : Fields) (place : ℕ)
    (room : place + length forms ≤ length fields) where
  -- the fields from an index on
  abbrev texts : Fields
  texts = drop place fields

  -- one more field is tested
  step : (i : ℕ) → i < length forms
      → all_have test (drop i forms) (drop i texts)
      ≡ (test (get_or forms i form.Name) (text_at fields (place + i)) && all_have test (drop (i + 1) forms) (drop (i + 1) texts))
  step i inside =
      let there : i < length texts = omega (arith, length-drop place fields) in
      at_drop_more (λ fs. all_have test fs (drop i texts)) forms i form.Name inside
      ∙ at_drop_more (λ ts. all_have test (get_or forms i form.Name ∷ drop (i + 1) forms) ts) texts i [] there
      ∙ ap (λ t. test (get_or forms i form.Name) t && all_have test (drop (i + 1) forms) (drop (i + 1) texts))
      (get_or-drop place fields i [])

  -- if a field passes, the result depends on the fields after it; if it fails, the result is false
  pub tested : (i : ℕ) (text : List ℕ) (b whole : Bool) → i < length forms → text ≡ text_at fields (place + i)
      → b ≡ test (get_or forms i form.Name) text → all_have test (drop i forms) (drop i texts) ≡ whole
      → (b && all_have test (drop (i + 1) forms) (drop (i + 1) texts)) ≡ whole
  tested i text b whole inside is answer so_far = rw (answer, is) (sym (step i inside) ∙ so_far)

  -- if no field is left to test, the result is true
  pub none_left : (i : ℕ) → length forms ≤ i → all_have test (drop i forms) (drop i texts) ≡ true
  none_left i past = at_drop_all (λ fs. all_have test fs (drop i texts)) forms i past

-- ---- all fields of a layout

layout_all : (test : FieldForm → List ℕ → Bool) (front middle back : List FieldForm) (fields : Fields)
    → all_have test (front ++ middle ++ back) (drop 1 fields)
    ≡ ((all_have test front (drop 1 fields) && all_have test middle (drop (1 + length front) fields))
    && all_have test back (drop (1 + length front + length middle) fields))
layout_all test front middle back fields =
    let count : 1 + length (front ++ middle) ≡ 1 + length front + length middle = omega (arith, length-append front middle) in
    all_have-append test (front ++ middle) back (drop 1 fields)
    ∙ ap₂ (λ a b. a && b)
    (all_have-append test front middle (drop 1 fields)
    ∙ ap (λ ts. all_have test front (drop 1 fields) && all_have test middle ts) (drop-drop (length front) 1 fields))
    (ap (all_have test back) (drop-drop (length (front ++ middle)) 1 fields ∙ ap (λ n. drop n fields) count))

pub layout_told : (test : FieldForm → List ℕ → Bool) (front middle back : List FieldForm) (fields : Fields)
    (forms : List FieldForm) → (front ++ middle ++ back) ≡ forms → (a b c : Bool)
    → a ≡ all_have test front (drop 1 fields) → b ≡ all_have test middle (drop (1 + length front) fields)
    → c ≡ all_have test back (drop (1 + length front + length middle) fields)
    → ((a && b) && c) ≡ all_have test forms (drop 1 fields)
layout_told test front middle back fields forms is a b c in_front in_middle in_back =
    rw (in_front, in_middle, in_back, ← is) (sym (layout_all test front middle back fields))

-- all fields of a CONTRACT, whose risk array is read value by value
pub contract_right : (profile : ℕ) (r : Fields) → length r ≡ EXTRAS + length (contract_back profile (product_at r 3))
    → is_right_contract profile r ≡ all_have is_right (contract_forms profile (product_at r 3)) (drop 1 r)
contract_right profile r long =
    let back = contract_back profile (product_at r 3) in
    layout_told is_right contract_front (repeat SCENARIOS (an_array_value ∷ [])) back r _ refl _ _ _
    (are_right_all contract_front r 1 (omega (arith, long)))
    (sym (all_have-repeat is_right an_array_value SCENARIOS (drop array_place r)))
    (are_right_all back r EXTRAS (omega (arith, long)))
