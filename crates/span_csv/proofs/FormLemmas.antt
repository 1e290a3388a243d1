-- The numbers that are read from a record whose fields have their forms.
use Rattle.std.proofs.Common.{◌≡◌, ◌∙◌, ◌+◌, ◌*◌, ◌≤◌, ◌&&◌, ◌==◌, sym, refl, ap, arith, ℕ, suc, zero, Bool, true}
use Rattle.std.proofs.Common.{false, length-append, if◌then◌else◌, ℤ, pos, negsuc, List, [], ◌∷◌, ◌++◌, length, take}
use Rattle.std.proofs.Common.{drop, Option, Some, None, subst}
use Rattle.std.specs.Prelude.{flat_map, nat_le, nat_abs, replicate, unwrap_or, slice_get}
use Rattle.std.specs.Char.{is_ascii_digit}
use Rattle.std.specs.List.{list_all, repeat}
use Rattle.std.specs.Option.{option_map_or}
use Rattle.std.proofs.Math.Bool.{and_assoc}
use Rattle.std.proofs.Math.Nat.{suc-mul}
use Rattle.std.proofs.lemmas.List.{at_drop_more, get_or_past}
use Rattle.std.proofs.lemmas.Bool.{and_parts, leb-true, le-leb, eqb-true, ne_eqb, not-false}
use Rattle.span_money.specs.Numbers.{positive_part, whole_number, month_number, are_digits, digits_value, is_month}
use Rattle.span_tables.specs.near.Limits.{lies_within}
use Rattle.span_csv.specs.ParamFaults.{some_fail}
use Rattle.span_csv.specs.near.Grammar.{are_right, is_right}
use Rattle.span_csv.specs.Records.{Fields, count_at, layout_of, text_at, all_have, is_within, is_in_range}
use Rattle.span_csv.specs.declared.grammar.FieldForm.{FieldForm}
use Rattle.span_csv.specs.declared.grammar.FieldForm.TheVariants as form

-- ---- numbers

-- a non-negative number in a range, read as a count, is in the range
pub count_within : (l h : ℕ) (o : Option ℤ) → is_within (pos l) (pos h) o ≡ true
    → lies_within l h (positive_part (unwrap_or o (pos 0))) ≡ true
count_within l h None e = cc
count_within l h (Some (pos n)) e = e
count_within l h (Some (negsuc n)) e = cc

-- a number from 0 to a highest value, read as a count, is at most that value
pub count_below : (h : ℕ) (o : Option ℤ) → is_within (pos 0) (pos h) o ≡ true
    → nat_le (positive_part (unwrap_or o (pos 0))) h ≡ true
count_below h o e =
    (and_parts (nat_le 0 (positive_part (unwrap_or o (pos 0)))) (nat_le (positive_part (unwrap_or o (pos 0))) h) (count_within 0 h o e)).1

-- the absolute value of a number in a symmetric range is at most the range's bound
pub size_within : (h : ℕ) (o : Option ℤ) → is_within (negsuc h) (pos (suc h)) o ≡ true
    → nat_le (nat_abs (unwrap_or o (pos 0))) (suc h) ≡ true
size_within h None e = cc
size_within h (Some (pos n)) e = e
size_within h (Some (negsuc n)) e =
    let both = and_parts (nat_le n h) true e in
    let le : n ≤ h = leb-true n h both.0 in
    le-leb (suc n) (suc h) (omega arith)

-- ---- months

-- a value that is present only if a test is true
pub if_some : {A : Type 0} (b : Bool) (v z : A) → (if b then Some v else None) ≡ Some z → (b ≡ true) × (v ≡ z)
if_some true v z e = (refl, cc)
if_some false v z e = cc

-- the number of a month is the whole number of its text: six digits, which do not begin with a minus sign
month_whole : (text : List ℕ) (z : ℤ) → month_number text ≡ Some z → whole_number text ≡ Some z
month_whole [] z e = cc
month_whole (b ∷ rest) z e =
    let found = if_some ((length (b ∷ rest) == 6) && are_digits 6 (b ∷ rest)) (pos (digits_value (b ∷ rest))) z e in
    let parts = and_parts (length (b ∷ rest) == 6) (are_digits 6 (b ∷ rest)) found.0 in
    let six : length (b ∷ rest) ≡ 6 = eqb-true (length (b ∷ rest)) 6 parts.0 in
    let digits = and_parts (nat_le 1 (length (b ∷ rest)) && nat_le (length (b ∷ rest)) 6)
    (list_all is_ascii_digit (b ∷ rest)) parts.1 in
    let some = and_parts (nat_le 1 (length (b ∷ rest))) (nat_le (length (b ∷ rest)) 6) digits.0 in
    let first = and_parts (is_ascii_digit b) (list_all is_ascii_digit rest) digits.1 in
    let bounds = and_parts (nat_le 48 b) (nat_le b 57) first.0 in
    let low : 48 ≤ b = leb-true 48 b bounds.0 in
    let plain : (b == 45) ≡ false = ne_eqb b 45 (λ same. absurd (omega (arith, same))) in
    let few : nat_le (length (b ∷ rest)) 18 ≡ true = le-leb (length (b ∷ rest)) 18 (omega (arith, six)) in
    rw (plain, some.0, few, digits.1) (ap (λ v. Some v) found.1)

month_from : (text : List ℕ) (o : Option ℤ) → month_number text ≡ o
    → option_map_or (λ z. is_month (positive_part z)) o false ≡ true
    → is_month (positive_part (unwrap_or (whole_number text) (pos 0))) ≡ true
month_from text None e h = cc
month_from text (Some z) e h = rw (month_whole text z e) h

-- a month in its range, read as a count, is a month
pub month_within : (text : List ℕ) → is_in_range form.Month text ≡ true
    → is_month (positive_part (unwrap_or (whole_number text) (pos 0))) ≡ true
month_within text h = month_from text (month_number text) refl h

-- ---- fields

-- if `some_fail` is false, all fields pass the test
pub all_pass : (test : FieldForm → List ℕ → Bool) (profile : ℕ) (word : List ℕ) (fields : Fields) (forms : List FieldForm)
    → layout_of profile (word ∷ fields) ≡ Some forms
    → some_fail test profile (word ∷ fields) ≡ false → all_have test forms fields ≡ true
all_pass test profile word fields forms found e =
    let h = rw found at e in
    not-false (all_have test forms fields) h

-- each of the fields from an index on is right for its form
pub right_at : (forms : List FieldForm) (r : Fields) (place i : ℕ) (f : FieldForm) → are_right forms r place ≡ true
    → slice_get forms i ≡ Some f → is_right f (text_at r (place + i)) ≡ true
right_at [] r place i f right is = cc
right_at (g ∷ forms) r place zero f right is =
    let same : g ≡ f = cc in
    let here : place ≡ place + 0 = omega arith in
    subst (λ n. is_right f (text_at r n) ≡ true) here
    (rw (← same) ((and_parts (is_right g (text_at r place)) (are_right forms r (place + 1)) right).0))
right_at (g ∷ forms) r place (suc i) f right is =
    let next : place + 1 + i ≡ place + suc i = omega arith in
    subst (λ n. is_right f (text_at r n) ≡ true) next
    (right_at forms r (place + 1) i f (and_parts (is_right g (text_at r place)) (are_right forms r (place + 1)) right).1 is)

-- an empty list of fields passes every test
pub all_have-none : (test : FieldForm → List ℕ → Bool) (forms : List FieldForm) → all_have test forms [] ≡ true
all_have-none test [] = refl
all_have-none test (f ∷ forms) = refl

-- the forms of a prefix test the first fields, and the other forms test the fields after them
pub all_have-append : (test : FieldForm → List ℕ → Bool) (front back : List FieldForm) (fields : Fields)
    → all_have test (front ++ back) fields ≡ (all_have test front fields && all_have test back (drop (length front) fields))
all_have-append test [] back fields = refl
all_have-append test (f ∷ front) back [] = sym (all_have-none test back)
all_have-append test (f ∷ front) back (x ∷ fields) =
    rw (all_have-append test front back fields)
    (sym (and_assoc (test f x) (all_have test front fields) (all_have test back (drop (length front) fields))))

-- a number of fields of one form pass exactly if each of them does
pub all_have-repeat : (test : FieldForm → List ℕ → Bool) (f : FieldForm) (n : ℕ) (fields : Fields)
    → all_have test (repeat n (f ∷ [])) fields ≡ list_all (test f) (take n fields)
all_have-repeat test f zero fields = refl
all_have-repeat test f (suc n) [] = refl
all_have-repeat test f (suc n) (x ∷ fields) = ap (λ b. test f x && b) (all_have-repeat test f n fields)

-- fields from an index on pass exactly if the list of them does
pub are_right_all : (forms : List FieldForm) (r : Fields) (i : ℕ) → i + length forms ≤ length r
    → are_right forms r i ≡ all_have is_right forms (drop i r)
are_right_all [] r i room = refl
are_right_all (form ∷ forms) r i room =
    ap (λ rest. is_right form (text_at r i) && rest) (are_right_all forms r (i + 1) (omega (arith, room)))
    ∙ sym (at_drop_more (λ texts. all_have is_right (form ∷ forms) texts) r i [] (omega (arith, room)))

-- ---- layouts

-- the first n of equal lists, joined
pub flat_take : {A : Type 0} (n m : ℕ) (xs : List A) → n ≤ m → flat_map (λ x. x) (take n (replicate m xs)) ≡ repeat n xs
flat_take zero m xs le = refl
flat_take (suc n) zero xs le = absurd (omega (arith, le))
flat_take (suc n) (suc m) xs le = ap (λ rest. xs ++ rest) (flat_take n m xs (omega (arith, le)))

pub length-repeat : {A : Type 0} (n : ℕ) (xs : List A) → length (repeat n xs) ≡ n * length xs
length-repeat zero xs = omega arith
length-repeat (suc n) xs = omega (arith, length-append xs (repeat n xs), length-repeat n xs, suc-mul n (length xs))

pub layout_length : (front middle back : List FieldForm) → length (front ++ middle ++ back) ≡ length front + length middle + length back
layout_length front middle back = omega (arith, length-append (front ++ middle) back, length-append front middle)

-- ---- fields past the end

-- a field past the end is no number, and counts as 0
pub count_past : (r : Fields) (i : ℕ) → length r ≤ i → count_at r i ≡ 0
count_past r i past = ap (λ text. positive_part (unwrap_or (whole_number text) (pos 0))) (get_or_past r i [] past)
