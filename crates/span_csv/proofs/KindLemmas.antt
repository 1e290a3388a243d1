-- The fields of a record of a kind: their number, and the test of all of them, from the tests of their parts.
use Rattle.std.proofs.Common.{◌≡◌, ◌⊎◌, ◌≤◌, ◌+◌, ◌-◌, ◌*◌, ◌∙◌, ◌&&◌, ◌==◌, sym, ap, ap₂, arith, inl, inr, ℕ, Bool, true}
use Rattle.std.proofs.Common.{Option, Some, None, List, [], ◌∷◌, ◌++◌, length, length-append, drop, pos}
use Rattle.std.specs.Prelude.{option_and_then}
use Rattle.std.specs.List.{repeat}
use Rattle.std.specs.Option.{option_or}
use Rattle.std.proofs.lemmas.Bool.{eqb-true}
use Rattle.std.proofs.lemmas.List.{drop-drop, length-drop}
use Rattle.span_tables.specs.declared.limits.TheConstants.{MAX_RATIO, MAX_TIER_NUMBER}
use Rattle.span_csv.specs.near.Grammar.{HasLegs, HasSize, are_right, has_right_legs, is_right, is_right_record}
use Rattle.span_csv.specs.ParamFaults.{profile_of}
use Rattle.span_csv.specs.Records.{Fields, all_have, commodity_forms, contract_forms, exactly, forms_of, has_word_form, inter_front}
use Rattle.span_csv.specs.Records.{intra_front, is_in_range, kind_of, layout_of, product_at, set_forms, spot_forms, tier_forms, with_legs}
use Rattle.span_csv.specs.declared.grammar.FieldForm.{FieldForm}
use Rattle.span_csv.specs.declared.grammar.FieldForm.TheVariants as form
use Rattle.span_csv.specs.declared.grammar.Kind.{Kind}
use Rattle.span_csv.specs.declared.grammar.Kind.TheVariants as kind
use Rattle.span_csv.proofs.CheckLemmas.{both_right}
use Rattle.span_csv.proofs.CountLemmas.{IsClean, some_of}
use Rattle.span_csv.proofs.FormLemmas.{all_have-append, all_pass, are_right_all, if_some, length-repeat}
use Rattle.span_csv.proofs.LegLemmas.{legs_right}
use Rattle.span_csv.proofs.TestLemmas.{contract_right}

-- exactly these forms, one for each field
exact : (forms found : List FieldForm) (n : ℕ) → exactly forms n ≡ Some found → (n ≡ length forms) × (forms ≡ found)
exact forms found n e =
    let parts = if_some (n == length forms) forms found e in
    (eqb-true n (length forms) parts.0, parts.1)

one_of : {A : Type 0} (o p : Option A) (x : A) → option_or o p ≡ Some x → (o ≡ Some x) ⊎ (p ≡ Some x)
one_of None p x e = inr e
one_of (Some y) p x e = inl e

-- a spread has 2 to 4 legs, and the forms for that number of legs
legs_count : (front leg forms : List FieldForm) (n : ℕ) → with_legs front leg n ≡ Some forms
    → (k : ℕ) × (2 ≤ k) × (k ≤ 4) × (exactly (front ++ repeat k leg) n ≡ Some forms)
legs_count front leg forms n e =
    let two = exactly (front ++ repeat 2 leg) n in
    let three = exactly (front ++ repeat 3 leg) n in
    elim (one_of (option_or two three) (exactly (front ++ repeat 4 leg) n) forms e) [
      | inl few ↦
          elim (one_of two three forms few) [
            | inl h ↦ (2, omega arith, omega arith, h)
            | inr h ↦ (3, omega arith, omega arith, h)
          ]
      | inr h ↦ (4, omega arith, omega arith, h)
    ]

module _ (r : Fields) (forms : List FieldForm) (some : 1 ≤ length r) where
  -- the layout has the forms of the record
  own : (want : List FieldForm) (test : Bool) → test ≡ all_have is_right want (drop 1 r) → exactly want (length r - 1) ≡ Some forms
      → test ≡ all_have is_right forms (drop 1 r)
  own want test same found = same ∙ ap (λ fs. all_have is_right fs (drop 1 r)) (exact want forms (length r - 1) found).1

  sized : (want : List FieldForm) → exactly want (length r - 1) ≡ Some forms → length r ≡ 1 + length want
  sized want found = omega (arith, (exact want forms (length r - 1) found).0)

  fixed : (want : List FieldForm) → exactly want (length r - 1) ≡ Some forms
      → are_right want r 1 ≡ all_have is_right forms (drop 1 r)
  fixed want found = own want (are_right want r 1) (are_right_all want r 1 (omega (arith, sized want found))) found

  module _ (front : List FieldForm) (a b c : FieldForm) (found : with_legs front (a ∷ b ∷ c ∷ []) (length r - 1) ≡ Some forms) where
    abbrev leg : List FieldForm
    leg = a ∷ b ∷ c ∷ []

    has_legs : HasLegs (1 + length front) r
    has_legs =
        let legs = legs_count front leg forms (length r - 1) found in
        let long = sized (front ++ repeat legs.0 leg) legs.3 in
        (legs.0, legs.1, legs.2, omega (arith, long, length-append front (repeat legs.0 leg), length-repeat legs.0 leg))

    spread : has_right_legs front leg r ≡ all_have is_right forms (drop 1 r)
    spread =
        let legs = legs_count front leg forms (length r - 1) found in
        let want = front ++ repeat legs.0 leg in
        let long : length r ≡ 1 + length front + legs.0 * 3 =
        omega (arith, sized want legs.3, length-append front (repeat legs.0 leg), length-repeat legs.0 leg) in
        let threes : length (drop (1 + length front) r) ≡ legs.0 * 3 = omega (arith, long, length-drop (1 + length front) r) in
        own want (has_right_legs front leg r)
        (ap₂ (λ x y. x && y) (are_right_all front r 1 (omega (arith, long)))
        (sym (legs_right a b c legs.0 (drop (1 + length front) r) threes)
        ∙ ap (all_have is_right (repeat legs.0 leg)) (sym (drop-drop (length front) 1 r)))
        ∙ sym (all_have-append is_right front (repeat legs.0 leg) (drop 1 r)))
        legs.3

  abbrev IsFound : Kind → ℕ → Type 0
  IsFound kind profile = forms_of kind profile (product_at r 3) (length r - 1) ≡ Some forms

  abbrev a_tier : FieldForm
  a_tier = form.Whole (pos 1) (pos MAX_TIER_NUMBER)

  abbrev a_ratio : FieldForm
  a_ratio = form.Decimal (pos 1) (pos MAX_RATIO)

  -- a record with a layout has the number of fields of its kind
  pub has_size : (kind : Kind) (profile : ℕ) → IsFound kind profile → HasSize kind profile r
  has_size kind.Contract profile found =
      let long = sized (contract_forms profile (product_at r 3)) found in omega (arith, long)
  has_size kind.Intra profile found = has_legs intra_front a_tier form.Side a_ratio found
  has_size kind.Inter profile found = has_legs inter_front form.Name form.Side a_ratio found
  has_size _ profile found = tt

  -- a record is tested as the fields of its layout are
  pub right_is : (kind : Kind) (profile : ℕ) → IsFound kind profile
      → is_right_record kind profile r ≡ all_have is_right forms (drop 1 r)
  right_is kind.Set profile found = fixed set_forms found
  right_is kind.Commodity profile found = fixed commodity_forms found
  right_is kind.Contract profile found =
      own (contract_forms profile (product_at r 3)) _ (contract_right profile r (has_size kind.Contract profile found)) found
  right_is kind.Tier profile found = fixed tier_forms found
  right_is kind.Intra profile found = spread intra_front a_tier form.Side a_ratio found
  right_is kind.Spot profile found = fixed spot_forms found
  right_is kind.Inter profile found = spread inter_front form.Name form.Side a_ratio found

-- a record without a fault has the number of fields of its kind, and all of them are right
pub clean_right : (earlier : List Fields) (r : Fields) → IsClean earlier r → (kind : Kind) → kind_of r ≡ Some kind
    → HasSize kind (profile_of earlier) r × (is_right_record kind (profile_of earlier) r ≡ true)
clean_right earlier [] c kind is = cc
clean_right earlier (word ∷ fields) c kind is =
    let profile = profile_of earlier in
    let forms = some_of (layout_of profile (word ∷ fields)) c.layout in
    let found : forms_of kind profile (product_at (word ∷ fields) 3) (length (word ∷ fields) - 1) ≡ Some forms.0 =
    sym (ap (option_and_then (λ k. forms_of k profile (product_at (word ∷ fields) 3) (length (word ∷ fields) - 1))) is) ∙ forms.1 in
    let words = all_pass has_word_form profile word fields forms.0 forms.1 c.words in
    let ranges = all_pass is_in_range profile word fields forms.0 forms.1 c.ranges in (
      has_size (word ∷ fields) forms.0 (omega arith) kind profile found,
      right_is (word ∷ fields) forms.0 (omega arith) kind profile found ∙ both_right forms.0 fields words ranges,
    )
