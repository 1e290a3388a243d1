-- The faults of a record's fields, from the results of their tests.
use Rattle.std.proofs.Common.{◌≡◌, ◌-◌, ◌&&◌, ◌∙◌, ap, refl, sym, ℕ, Bool, true, false, List}
use Rattle.std.proofs.Common.{[], ◌∷◌, ◌++◌, length, drop, Option, Some, None}
use Rattle.std.specs.Prelude.{ℤ, is_some, option_map, MatchResult, Result, Ok, Err}
use Rattle.std.specs.Option.{option_map_or}
use Rattle.std.proofs.lemmas.Bool.{and_parts, and_from}
use Rattle.span_money.specs.Numbers.{whole_number, decimal_number, month_number}
use Rattle.span_tables.specs.Faults.{first_that_holds}
use Rattle.span_tables.specs.declared.records.Record.{Record}
use Rattle.span_csv.specs.near.Checks.{IsFree, IsFaultOf, IsOfKind, field_faults, kind_faults}
use Rattle.span_csv.specs.near.Grammar.{is_right}
use Rattle.span_csv.specs.Records.{Fields, forms_of, kind_of, layout_of, product_at, record_of_kind}
use Rattle.span_csv.specs.Records.{is_within, is_in_range, has_number_form, has_word_form, all_have}
use Rattle.span_csv.specs.declared.faults.ParamFault.{ParamFault}
use Rattle.span_csv.specs.declared.faults.ParamFault.TheVariants as fault
use Rattle.span_csv.specs.declared.grammar.FieldForm.{FieldForm}
use Rattle.span_csv.specs.declared.grammar.FieldForm.TheVariants as form
use Rattle.span_csv.specs.declared.grammar.Kind.{Kind}

-- ---- the first fault of a list

-- after faults that are all absent, the first fault is the first of the others
pub first_append : {F : Type 0} (xs ys : List (Bool × F)) → first_that_holds xs ≡ None
    → first_that_holds (xs ++ ys) ≡ first_that_holds ys
first_append [] ys e = refl
first_append ((true, f) ∷ xs) ys e = cc
first_append ((false, f) ∷ xs) ys e = first_append xs ys e

pub fault_behind : (xs ys : List (Bool × (ℕ → ParamFault))) (at : ℕ) (answer : ParamFault) → IsFree xs → IsFaultOf ys at answer
    → IsFaultOf (xs ++ ys) at answer
fault_behind xs ys at answer free e = ap (option_map (λ f. f at)) (first_append xs ys free) ∙ e

-- the first fault stays first if more faults are appended
pub first_front : {F : Type 0} (xs ys : List (Bool × (ℕ → F))) (at : ℕ) (answer : F)
    → option_map (λ f. f at) (first_that_holds xs) ≡ Some answer → option_map (λ f. f at) (first_that_holds (xs ++ ys)) ≡ Some answer
first_front [] ys at answer e = cc
first_front ((true, f) ∷ xs) ys at answer e = e
first_front ((false, f) ∷ xs) ys at answer e = first_front xs ys at answer e

-- if no fault of a list is present, none of a prefix is
pub front_none : {F : Type 0} (xs ys : List (Bool × F)) → first_that_holds (xs ++ ys) ≡ None → first_that_holds xs ≡ None
front_none [] ys e = refl
front_none ((true, f) ∷ xs) ys e = cc
front_none ((false, f) ∷ xs) ys e = front_none xs ys e

-- ---- all fields pass a test

within_some : (low high : ℤ) (o : Option ℤ) → is_within low high o ≡ true → is_some o ≡ true
within_some low high None e = e
within_some low high (Some z) e = refl

month_some : (test : ℤ → Bool) (o : Option ℤ) → option_map_or test o false ≡ true → is_some o ≡ true
month_some test None e = e
month_some test (Some z) e = refl

-- a number in its range has its form
in_range_number : (form : FieldForm) (text : List ℕ) → is_in_range form text ≡ true → has_number_form form text ≡ true
in_range_number (form.Whole low high) text e = within_some low high (whole_number text) e
in_range_number (form.Decimal low high) text e = within_some low high (decimal_number text) e
in_range_number form.Month text e = month_some _ (month_number text) e
in_range_number _ text e = refl

pub all_in_range_number : (forms : List FieldForm) (fields : Fields) → all_have is_in_range forms fields ≡ true
    → all_have has_number_form forms fields ≡ true
all_in_range_number [] fields e = refl
all_in_range_number (form ∷ forms) [] e = refl
all_in_range_number (form ∷ forms) (text ∷ fields) e =
    let parts = and_parts (is_in_range form text) (all_have is_in_range forms fields) e in
    and_from (has_number_form form text) (all_have has_number_form forms fields) (in_range_number form text parts.0)
    (all_in_range_number forms fields parts.1)

-- ---- two tests together

both_parts : (a b c d : Bool) → ((a && b) && (c && d)) ≡ ((a && c) && (b && d))
both_parts true true c d = refl
both_parts true false true d = refl
both_parts true false false d = refl
both_parts false b c d = refl

-- all fields pass two tests exactly if all pass the first and all pass the second
pub all_have_both : (a b : FieldForm → List ℕ → Bool) (forms : List FieldForm) (fields : Fields)
    → all_have (λ form text. a form text && b form text) forms fields ≡ (all_have a forms fields && all_have b forms fields)
all_have_both a b [] fields = refl
all_have_both a b (form ∷ forms) [] = refl
all_have_both a b (form ∷ forms) (text ∷ fields) =
    rw (all_have_both a b forms fields) (both_parts (a form text) (b form text) (all_have a forms fields) (all_have b forms fields))

module _ (forms : List FieldForm) (fields : Fields) where
  split : all_have is_right forms fields ≡ (all_have has_word_form forms fields && all_have is_in_range forms fields)
  split = all_have_both has_word_form is_in_range forms fields

  -- in a record that passes, words have their forms and numbers are in their ranges
  pub right_parts : all_have is_right forms fields ≡ true
      → (all_have has_word_form forms fields ≡ true) × (all_have is_in_range forms fields ≡ true)
  right_parts passes = and_parts _ _ (sym split ∙ passes)

  -- a record that fails although its words have their forms has a number out of its range
  pub range_fails : all_have is_right forms fields ≡ false → all_have has_word_form forms fields ≡ true
      → all_have is_in_range forms fields ≡ false
  range_fails fails words = sym (ap (λ b. b && all_have is_in_range forms fields) words) ∙ sym split ∙ fails

  -- if words have their forms and numbers are in their ranges, the record passes
  pub both_right : all_have has_word_form forms fields ≡ true → all_have is_in_range forms fields ≡ true
      → all_have is_right forms fields ≡ true
  both_right words ranges = split ∙ and_from _ _ words ranges

-- ---- the faults of fields

-- fields that have their forms and are in their ranges have no fault
pub none_fails : (kind : Kind) (profile : ℕ) (r : Fields) (forms : List FieldForm) → kind_of r ≡ Some kind
    → forms_of kind profile (product_at r 3) (length r - 1) ≡ Some forms
    → all_have has_word_form forms (drop 1 r) ≡ true → all_have is_in_range forms (drop 1 r) ≡ true
    → IsFree (field_faults profile r)
none_fails kind profile r forms is e words ranges =
    let layout : layout_of profile r ≡ Some forms = rw is e in
    let numbers = all_in_range_number forms (drop 1 r) ranges in
    rw (layout, words, numbers, ranges) refl

-- the fault of fields that have their forms, if a number is out of its range
pub out_of_range : (kind : Kind) (profile at : ℕ) (r : Fields) (forms : List FieldForm) → kind_of r ≡ Some kind
    → forms_of kind profile (product_at r 3) (length r - 1) ≡ Some forms
    → all_have has_word_form forms (drop 1 r) ≡ true → all_have has_number_form forms (drop 1 r) ≡ true
    → all_have is_in_range forms (drop 1 r) ≡ false → IsFaultOf (field_faults profile r) at (fault.OutOfRange at)
out_of_range kind profile at r forms is e words numbers ranges =
    let layout : layout_of profile r ≡ Some forms = rw is e in
    rw (layout, words, numbers, ranges) refl

-- the answer for a record of a kind without a fault of its kind is the answer for its fields
pub form_told : (first : Bool) (profile at : ℕ) (r : Fields) (kind : Kind) → kind_of r ≡ Some kind → IsFree (kind_faults first r)
    → (answer : Result Record ParamFault)
    → MatchResult answer (λ x. (x ≡ record_of_kind kind r) × IsFree (field_faults profile r)) (IsFaultOf (field_faults profile r) at)
    → MatchResult answer (λ x. IsOfKind r x × IsFree (kind_faults first r ++ field_faults profile r))
    (IsFaultOf (kind_faults first r ++ field_faults profile r) at)
form_told first profile at r kind is free (Ok x) told =
    ((kind, is, told.0), first_append (kind_faults first r) (field_faults profile r) free ∙ told.1)
form_told first profile at r kind is free (Err e) told = fault_behind (kind_faults first r) (field_faults profile r) at e free told
