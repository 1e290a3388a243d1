-- Lemmas about number texts.
use Rattle.std.proofs.Common.{◌≡◌, ◌≢◌, ℕ, suc, ◌+◌, ◌-◌, ◌*◌, ◌^◌, ◌<◌, ◌==◌, Bool, true, false}
use Rattle.std.proofs.Common.{cond, List, [], ◌∷◌, ◌++◌, length, get_or, ap, refl, ◌∙◌, arith, inl, inr, rules}
use Rattle.std.specs.Prelude.{ℤ, pos, negsuc, neg_ℤ, nat_abs, fold, Some, None}
use Rattle.std.specs.Char.{is_ascii_digit}
use Rattle.std.specs.Fmt.{decimal, signed_decimal}
use Rattle.std.specs.List.{list_all}
use Rattle.std.proofs.lemmas.Bool.{cases_Bool}
use Rattle.std.proofs.lemmas.Bool.Decides.{nat_tests}
use Rattle.std.proofs.lemmas.Fmt.{decimal_nonempty, digits_decimal, digits_value-decimal, length-decimal-le}
use Rattle.std.proofs.lemmas.Str.Parse.{IsNumeralModel, numerals_by_fold, not_in_digits}
use Rattle.span_money.specs.Numbers.{are_digits, digits_value, has_minus, whole_number, with_sign, without_minus}

-- the digits of a text and their value agree with the digits that std prints

pub own : IsNumeralModel (λ ds. list_all is_ascii_digit ds ≡ true) digits_value
own = numerals_by_fold (λ ds. list_all is_ascii_digit ds ≡ true) (search rules) (λ n text. fold (λ n d. n * 10 + (d - 48)) n text)
    (search rules)

-- a number below 10^18 is written with at most 18 digits
written : (n : ℕ) → n < 10 ^ 18 → are_digits 18 (decimal n) ≡ true
written n h =
    let small : n < 2 ^ 64 = omega arith in
    let some : 0 < length (decimal n) = decimal_nonempty n small in
    let few = length-decimal-le 18 n (omega arith) h small in
    let digits : list_all is_ascii_digit (decimal n) ≡ true = digits_decimal own n small in
    grind (arith, nat_tests)

-- a text that has no minus is read unchanged
without_flag : (flag : Bool) (b : ℕ) (rest : List ℕ) → flag ≡ false → are_digits 18 (b ∷ rest) ≡ true
    → cond (are_digits 18 (cond flag rest (b ∷ rest))) (Some (with_sign flag (digits_value (cond flag rest (b ∷ rest))))) None
    ≡ Some (pos (digits_value (b ∷ rest)))
without_flag false b rest off e = ap (λ t. cond t (Some (pos (digits_value (b ∷ rest)))) None) e
without_flag true b rest off e = absurd (cc)

-- digits are read as the number that they spell
reads_digits : (ds : List ℕ) → are_digits 18 ds ≡ true → get_or ds 0 0 ≢ 45 → whole_number ds ≡ Some (pos (digits_value ds))
reads_digits [] e ne = absurd (cc)
reads_digits (b ∷ rest) e ne = without_flag (b == 45) b rest (grind (arith, nat_tests)) e

-- digits after a minus are read as the negated number
reads_minus : (ds : List ℕ) → are_digits 18 ds ≡ true → whole_number (45 ∷ ds) ≡ Some (neg_ℤ (pos (digits_value ds)))
reads_minus ds e = ap (λ b. cond b (Some (neg_ℤ (pos (digits_value ds)))) None) e

-- a text is split after its minus and its digits, which are read as the number that they spell
pub splits_whole : (text digits rest : List ℕ) → without_minus text ≡ digits ++ rest → are_digits 18 digits ≡ true
    → (front : List ℕ) × (text ≡ front ++ rest) × (whole_number front ≡ Some (with_sign (has_minus text) (digits_value digits)))
splits_whole text [] rest e are = cc
splits_whole [] (d ∷ ds) rest e are = cc
splits_whole (b ∷ bs) (d ∷ ds) rest e are =
    elim (cases_Bool (b == 45)) [
      | inl is ↦ (b ∷ d ∷ ds, ap (λ t. b ∷ t) (rw is at e), rw (is, are) refl)
      | inr other ↦ (d ∷ ds, rw other at e, rw other (reads_digits (d ∷ ds) are (grind (arith, nat_tests))))
    ]

-- the text written for a whole number is read back as that number
pub read_back : (z : ℤ) → nat_abs z < 10 ^ 18 → whole_number (signed_decimal z) ≡ Some z
read_back (pos n) h =
    let small : n < 2 ^ 64 = omega arith in
    let some : 0 < length (decimal n) = decimal_nonempty n small in
    let digits : list_all is_ascii_digit (decimal n) ≡ true = digits_decimal own n small in
    reads_digits (decimal n) (written n h) (not_in_digits own (decimal n) 45 digits (search rules) 0 some)
    ∙ ap (λ m. Some (pos m)) (digits_value-decimal own n small)
read_back (negsuc n) h =
    let small : suc n < 2 ^ 64 = omega arith in
    reads_minus (decimal (suc n)) (written (suc n) h) ∙ ap (λ m. Some (neg_ℤ (pos m))) (digits_value-decimal own (suc n) small)
