-- A record of names and a quantity, read by itself, has the lowest-numbered of the faults that do not depend on other
-- records.
use Rattle.std.proofs.Common.{◌≡◌, refl, ap, inl, inr, arith, ℕ, zero, suc, ◌+◌, Bool, true, not, ◌&&◌, ◌==◌}
use Rattle.std.proofs.Common.{ℤ, List, [], ◌∷◌, length, Option, Some, None, Result, Ok, Err}
use Rattle.std.specs.Prelude.{option_map}
use Rattle.std.proofs.Math.Bool.{and-true}
use Rattle.std.proofs.lemmas.Bool.{cases_Bool, eqb-true}
use Rattle.span_tables.specs.Faults.{first_that_holds, ok_unless}
use Rattle.span_tables.specs.Names.{is_name}
use Rattle.span_money.specs.Numbers.{whole_number}
use Rattle.span_csv.specs.Records.{Fields, text_at, all_have, has_word_form, has_number_form, is_in_range, a_quantity}
use Rattle.span_csv.specs.near.NumberedReading.{are_names, is_quantity, quantity_alone}
use Rattle.span_csv.specs.declared.grammar.FieldForm.{FieldForm}
use Rattle.span_csv.specs.declared.grammar.FieldForm.TheVariants as form
use Rattle.span_csv.specs.declared.faults.PositionFault.{PositionFault}
use Rattle.span_csv.specs.declared.faults.PositionFault.TheVariants as fault

-- ---- forms

-- the forms of a record's fields: a number of names, then a quantity
abbrev pub named_forms : ℕ → List FieldForm
named_forms zero = a_quantity ∷ []
named_forms (suc n) = form.Name ∷ named_forms n

words : (n : ℕ) (r : Fields) → length r ≡ n + 1 → all_have has_word_form (named_forms n) r ≡ are_names n r
words zero [] e = absurd (omega (arith, e))
words zero (q ∷ []) e = refl
words zero (q ∷ x ∷ r) e = absurd (omega (arith, e))
words (suc n) [] e = absurd (omega (arith, e))
words (suc n) (a ∷ r) e = ap (λ b. is_name a && b) (words n r (omega (arith, e)))

-- a test that every name passes is a test of the quantity only
of_quantity : (test : FieldForm → List ℕ → Bool) → ((text : List ℕ) → test form.Name text ≡ true) → (n : ℕ) (r : Fields)
    → length r ≡ n + 1 → all_have test (named_forms n) r ≡ test a_quantity (text_at r n)
of_quantity test names zero [] e = absurd (omega (arith, e))
of_quantity test names zero (q ∷ []) e = and-true (test a_quantity q)
of_quantity test names zero (q ∷ x ∷ r) e = absurd (omega (arith, e))
of_quantity test names (suc n) [] e = absurd (omega (arith, e))
of_quantity test names (suc n) (a ∷ r) e = rw (names a) (of_quantity test names n r (omega (arith, e)))

-- ---- faults

-- the value of a record, or the first of its faults
abbrev pub left_by : {F V : Type 0} → ℕ → V → List (Bool × (ℕ → F)) → Result V F
left_by at value faults = ok_unless (option_map (λ f. f at) (first_that_holds faults)) value

-- continues with a record's quantity, or converts its fault
abbrev pub with_quantity : {F V : Type 0} → (PositionFault → F) → (ℤ → Result V F) → Result ℤ PositionFault → Result V F
with_quantity tells behind (Err e) = Err (tells e)
with_quantity tells behind (Ok quantity) = behind quantity

module _ {F V : Type 0} (tells : PositionFault → F) (n at : ℕ) (r : Fields) (more : List (Bool × (ℕ → F))) (value : V)
    (behind : ℤ → Result V F) where
  -- the faults that do not depend on other records, followed by more faults
  abbrev pub faults_with : List (Bool × (ℕ → F))
  faults_with =
      (not (length r == n + 1), λ at. tells (fault.FieldCount at))
      ∷ (not (all_have has_word_form (named_forms n) r), λ at. tells (fault.BadName at))
      ∷ (not (all_have has_number_form (named_forms n) r), λ at. tells (fault.BadNumber at))
      ∷ (not (all_have is_in_range (named_forms n) r), λ at. tells (fault.OutOfRange at))
      ∷ more

  named : (o : Option ℤ) → length r ≡ n + 1 → (length r == n + 1) ≡ true → are_names n r ≡ true → whole_number (text_at r n) ≡ o
      → ((q : ℤ) → whole_number (text_at r n) ≡ Some q → behind q ≡ left_by at value more)
      → with_quantity tells behind (quantity_alone n at r) ≡ left_by at value faults_with
  unfolding quantity_alone
  named None long counted names is rest = rw (counted, words n r long, names, of_quantity has_number_form (λ text. refl) n r long, is) refl
  named (Some z) long counted names is rest =
      let numbers = of_quantity has_number_form (λ text. refl) n r long in
      let ranges = of_quantity is_in_range (λ text. refl) n r long in
      elim (cases_Bool (is_quantity z)) [
        | inl within ↦ rw (counted, words n r long, names, numbers, ranges, is, within) (rest z is)
        | inr outside ↦ rw (counted, words n r long, names, numbers, ranges, is, outside) refl
      ]

  pub left_alone : ((q : ℤ) → whole_number (text_at r n) ≡ Some q → behind q ≡ left_by at value more)
      → with_quantity tells behind (quantity_alone n at r) ≡ left_by at value faults_with
  unfolding quantity_alone
  left_alone rest =
      elim (cases_Bool (length r == n + 1)) [
        | inl counted ↦
            let long : length r ≡ n + 1 = eqb-true (length r) (n + 1) counted in
            elim (cases_Bool (are_names n r)) [
              | inl names ↦ named (whole_number (text_at r n)) long counted names refl rest
              | inr other ↦ rw (counted, words n r long, other) refl
            ]
        | inr more_or_less ↦ rw more_or_less refl
      ]
