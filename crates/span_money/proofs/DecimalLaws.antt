-- A decimal is an optional minus, 1 to 6 digits, and a fraction.
use Rattle.std.proofs.Common.{◌≡◌, ℕ, ◌+◌, ◌-◌, ◌*◌, ◌^◌, ◌<◌, ◌&&◌, ◌==◌, Bool, true, false, cond, List, []}
use Rattle.std.proofs.Common.{◌∷◌, ◌++◌, length, drop, refl, sym, ap, ◌∙◌, subst, arith}
use Rattle.std.specs.Prelude.{ℤ, Some, None, Option, option_map}
use Rattle.std.specs.Char.{is_ascii_digit}
use Rattle.std.specs.List.{list_all, prefix_len, take_while}
use Rattle.std.proofs.lemmas.Bool.Decides.{nat_tests}
use Rattle.std.proofs.lemmas.List.Sums.{take_while-cons}
use Rattle.std.proofs.lemmas.List.{take-append-drop}
use Rattle.std.proofs.lemmas.List.Folds.{length-prefix_len}
use Rattle.std.proofs.Math.Seq.{drop-append_seam}
use Rattle.span_money.specs.Numbers.{are_digits, digits_value, decimal_number, fraction, has_minus, unsigned_decimal, with_sign}
use Rattle.span_money.specs.Numbers.{without_minus}
use Rattle.span_money.specs.Forms.{IsDecimal}
use Rattle.std.proofs.lemmas.Bool.{and_parts}

-- the leading digits of digits followed by a text that begins with no digit
pub stops : (front back : List ℕ) → list_all is_ascii_digit front ≡ true → take_while is_ascii_digit back ≡ []
    → take_while is_ascii_digit (front ++ back) ≡ front
stops [] back h e = e
stops (x ∷ xs) back h e =
    let both = and_parts (is_ascii_digit x) (list_all is_ascii_digit xs) h in
    take_while-cons is_ascii_digit x (xs ++ back)
    ∙ ap (λ b. cond b (x ∷ take_while is_ascii_digit (xs ++ back)) []) both.0
    ∙ ap (λ l. x ∷ l) (stops xs back both.1 e)

-- a fraction does not begin with a digit
no_digit : (back : List ℕ) (part : ℕ) → fraction back ≡ Some part → take_while is_ascii_digit back ≡ []
no_digit [] part e = refl
no_digit (b ∷ back) part e = by_point (b == 46) refl e where
  by_point : (t : Bool) → (b == 46) ≡ t
      → cond (t && are_digits 4 back) (Some (digits_value back * 10 ^ (4 - length back))) None ≡ Some part
      → take_while is_ascii_digit (b ∷ back) ≡ []
  by_point true is h =
      let point : b ≡ 46 = grind (arith, nat_tests) in
      subst (λ x. take_while is_ascii_digit (x ∷ back) ≡ []) (sym point) (take_while-cons is_ascii_digit 46 back)
  by_point false is h = absurd (cc)

-- the number that digits and a fraction spell
of_parts : (front back : List ℕ) (part : ℕ) → are_digits 6 front ≡ true → fraction back ≡ Some part
    → unsigned_decimal (front ++ back) ≡ Some (digits_value front * 10000 + part)
of_parts front back part h e =
    let all : list_all is_ascii_digit front ≡ true = grind (arith, nat_tests) in
    let begins = stops front back all (no_digit back part e) in
    subst (λ f. cond (are_digits 6 f) (option_map (λ x. digits_value f * 10000 + x) (fraction (drop (length f) (front ++ back)))) None
    ≡ Some (digits_value front * 10000 + part)) (sym begins)
    (rw (h, drop-append_seam front back, e) refl)

-- a text that begins with a digit has no minus
pub plain : (front back : List ℕ) → 0 < length front → list_all is_ascii_digit front ≡ true
    → (has_minus (front ++ back) ≡ false) × (without_minus (front ++ back) ≡ front ++ back)
plain [] back some all = absurd (omega arith)
plain (x ∷ xs) back some all =
    let digit : is_ascii_digit x ≡ true = (and_parts (is_ascii_digit x) (list_all is_ascii_digit xs) all).0 in
    let off : (x == 45) ≡ false = grind (arith, nat_tests) in
    (off, ap (λ b. cond b (xs ++ back) (x ∷ (xs ++ back))) off)

-- a decimal is read as the number that it spells
pub reads : (negative : Bool) (front back : List ℕ) (part : ℕ) → are_digits 6 front ≡ true → fraction back ≡ Some part
    → decimal_number (cond negative (45 ∷ []) [] ++ (front ++ back)) ≡ Some (with_sign negative (digits_value front * 10000 + part))
reads true front back part h e = ap (λ n. option_map (with_sign true) n) (of_parts front back part h e)
reads false front back part h e =
    let some : 0 < length front = grind (arith, nat_tests) in
    let all : list_all is_ascii_digit front ≡ true = grind (arith, nat_tests) in
    let p = plain front back some all in
    ap (λ b. option_map (with_sign b) (unsigned_decimal (without_minus (front ++ back)))) p.0
    ∙ ap (λ t. option_map (with_sign false) (unsigned_decimal t)) p.1
    ∙ ap (λ n. option_map (with_sign false) n) (of_parts front back part h e)

-- a text without a sign that spells n
record HasParts (text : List ℕ) (n : ℕ) : Type 0 where
  front : List ℕ
  back : List ℕ
  part : ℕ
  split : text ≡ front ++ back
  digits : are_digits 6 front ≡ true
  fraction_is : fraction back ≡ Some part
  value : n ≡ digits_value front * 10000 + part

has_parts : (text : List ℕ) (n : ℕ) → unsigned_decimal text ≡ Some n → HasParts text n
has_parts text n e = by_digits (are_digits 6 front) refl e where
  front : List ℕ
  front = take_while is_ascii_digit text

  back : List ℕ
  back = drop (length front) text

  halves : text ≡ front ++ back
  halves = sym (ap (λ i. front ++ drop i text) (length-prefix_len is_ascii_digit text)
      ∙ take-append-drop (prefix_len is_ascii_digit text) text)

  by_fraction : are_digits 6 front ≡ true → (f : Option ℕ) → fraction back ≡ f
      → option_map (λ x. digits_value front * 10000 + x) f ≡ Some n → HasParts text n
  by_fraction digits (Some part) is h =
      record { front = front; back = back; part = part; split = halves; digits = digits; fraction_is = is; value = cc }
  by_fraction digits None is h = absurd (cc)

  by_digits : (t : Bool) → are_digits 6 front ≡ t
      → cond t (option_map (λ x. digits_value front * 10000 + x) (fraction back)) None ≡ Some n → HasParts text n
  by_digits true is h = by_fraction is (fraction back) refl h
  by_digits false is h = absurd (cc)

-- a text is its minus, if it has one, and the remaining bytes
split_sign : (text : List ℕ) → text ≡ cond (has_minus text) (45 ∷ []) [] ++ without_minus text
split_sign [] = refl
split_sign (b ∷ rest) = by_minus (b == 45) refl where
  by_minus : (t : Bool) → (b == 45) ≡ t → b ∷ rest ≡ cond t (45 ∷ []) [] ++ cond t rest (b ∷ rest)
  by_minus true is = let minus : b ≡ 45 = grind (arith, nat_tests) in ap (λ x. x ∷ rest) minus
  by_minus false is = refl

-- a text that is read as a number is a decimal that spells the number
pub is_decimal : (text : List ℕ) (z : ℤ) → decimal_number text ≡ Some z → IsDecimal text z
is_decimal text z e = by_number (unsigned_decimal (without_minus text)) refl e where
  by_number : (u : Option ℕ) → unsigned_decimal (without_minus text) ≡ u → option_map (with_sign (has_minus text)) u ≡ Some z
      → IsDecimal text z
  by_number (Some n) is h =
      let p = has_parts (without_minus text) n is in
      let same : z ≡ with_sign (has_minus text) n = cc in
      record {
        negative = has_minus text;
        front = p.front;
        back = p.back;
        part = p.part;
        split = split_sign text ∙ ap (λ t. cond (has_minus text) (45 ∷ []) [] ++ t) p.split;
        digits = p.digits;
        fraction_is = p.fraction_is;
        value = same ∙ ap (with_sign (has_minus text)) p.value;
      }
  by_number None is h = absurd (cc)

pub of_decimal : (text : List ℕ) (z : ℤ) → IsDecimal text z → decimal_number text ≡ Some z
of_decimal text z d =
    ap decimal_number d.split ∙ reads d.negative d.front d.back d.part d.digits d.fraction_is ∙ ap (λ x. Some x) (sym d.value)
