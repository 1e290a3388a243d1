-- No byte of an exact decimal can be left out.
use Rattle.std.proofs.Common.{◌≡◌, ◌≢◌, ℕ, zero, suc, ◌+◌, ◌*◌, ◌/◌, ◌%◌, ◌^◌, ◌<◌, ◌≤◌, ◌==◌, true, false}
use Rattle.std.proofs.Common.{List, [], ◌∷◌, ◌++◌, ◌⊎◌, length, get_or, refl, sym, ap, ◌∙◌, inl, inr, arith, eq-zero-or-pos}
use Rattle.std.specs.Prelude.{ℤ, pos, negsuc, nat_abs, Some, None, Contains, ◌↔◌, ◌<ℤ◌}
use Rattle.std.specs.Char.{is_ascii_digit}
use Rattle.std.specs.Fmt.{decimal}
use Rattle.std.specs.List.{All, last_or, take_while}
use Rattle.std.proofs.Math.Nat.{div-le_self, div-lt_iff_lt-mul, mod-lt, pow-suc, zero-div, zero-mod}
use Rattle.std.proofs.lemmas.Nat.{div-add-mod'}
use Rattle.std.proofs.lemmas.Bool.Decides.{nat_tests}
use Rattle.std.proofs.lemmas.Fmt.{decimal_by_steps_wide, decimal_digit}
use Rattle.std.proofs.lemmas.Int.{ints}
use Rattle.std.proofs.lemmas.List.{append-nil, get_or_append_left, length-append}
use Rattle.std.proofs.lemmas.List.Elements.{All-append, All-cons, All-contains, All-nil, All-weaker}
use Rattle.std.proofs.lemmas.List.Sums.{AllPass-from_list_all}
use Rattle.span_money.specs.ExactDecimals.{exact_decimal, fraction_digits, fraction_text, unsigned_exact}
use Rattle.span_money.specs.Numbers.{has_minus, without_minus}
use Rattle.span_money.proofs.DecimalLaws.{stops}
use Rattle.span_money.proofs.ExactLaws.{is_whole, starts, tail_begins}
use Rattle.span_money.proofs.ExactLemmas.{no_digits, power_positive}

-- a text ends in a digit other than 0
abbrev EndsInDigit : List ℕ → Type 0
EndsInDigit text = (last : ℕ) × (last_or None text ≡ Some last) × (49 ≤ last) × (last ≤ 57)

with_front_byte : (x : ℕ) (text : List ℕ) → EndsInDigit text → EndsInDigit (x ∷ text)
with_front_byte x [] (b, e, low, high) = absurd (cc)
with_front_byte x (y ∷ text) end = end

with_front : (front text : List ℕ) → EndsInDigit text → EndsInDigit (front ++ text)
with_front [] text end = end
with_front (x ∷ front) text end = with_front_byte x (front ++ text) (with_front front text end)

-- a number above 0 without a remainder has a quotient above 0
not_zero : (f one : ℕ) → 0 < f → f % one ≡ 0 → 0 < f / one
not_zero f one some none = by_digit (eq-zero-or-pos (f / one)) where
  by_digit : (f / one ≡ 0) ⊎ (0 < f / one) → 0 < f / one
  by_digit (inl nothing) = absurd (omega (arith, div-add-mod' f one, ap (λ d. d * one) nothing))
  by_digit (inr more) = more

fraction_ends : (k f : ℕ) → 0 < f → f < 10 ^ k → EndsInDigit (fraction_digits k f)
fraction_ends zero f some below = absurd (omega arith)
fraction_ends (suc k) f some below =
    let rest = f % 10 ^ k in
    let off : (f == 0) ≡ false = grind (arith, nat_tests) in
    let lt : f < 10 * 10 ^ k = omega (arith, pow-suc 10 k) in
    let small : f / 10 ^ k < 10 = (div-lt_iff_lt-mul (power_positive k)).1 lt in
    let parts = div-add-mod' f (10 ^ k) in
    rw off (elim (eq-zero-or-pos rest) [
      | inl none ↦ rw (none, no_digits k) (48 + f / 10 ^ k, refl, omega (arith, not_zero f (10 ^ k) some none), omega arith)
      | inr more ↦ with_front_byte (48 + f / 10 ^ k) (fraction_digits k rest) (fraction_ends k rest more (mod-lt f (power_positive k)))
    ])

-- if the fraction is 0 there is no point
abbrev HasNoPoint : List ℕ → Type 0
HasNoPoint text = All (λ b. b ≢ 46) text

not_point : (b : ℕ) → is_ascii_digit b ≡ true → b ≢ 46
not_point b digit point = absurd (grind (arith, nat_tests))

no_point : (places n : ℕ) → n < 10 ^ 64 → n % 10 ^ places ≡ 0 → HasNoPoint (unsigned_exact places n)
no_point places n small none =
    let below : n / 10 ^ places < 10 ^ 64 = omega (arith, div-le_self n (10 ^ places)) in
    let front = decimal (n / 10 ^ places) in
    let digits = AllPass-from_list_all is_ascii_digit front (is_whole (n / 10 ^ places) below).digits in
    rw none (All-append (λ b. b ≢ 46) front [] (All-weaker (λ b. is_ascii_digit b ≡ true) (λ b. b ≢ 46) not_point front digits)
    (All-nil (λ b. b ≢ 46)))

unsigned_end : (places n : ℕ) → n < 10 ^ 64 → (n % 10 ^ places ≡ 0) ⊎ (0 < n % 10 ^ places)
    → HasNoPoint (unsigned_exact places n) ⊎ EndsInDigit (unsigned_exact places n)
unsigned_end places n small (inl none) = inl (no_point places n small none)
unsigned_end places n small (inr some) =
    let f = n % 10 ^ places in
    let off : (f == 0) ≡ false = grind (arith, nat_tests) in
    let digits = fraction_ends places f some (mod-lt n (power_positive places)) in
    inr (rw off (with_front (decimal (n / 10 ^ places)) (46 ∷ fraction_digits places f)
    (with_front_byte 46 (fraction_digits places f) digits)))

contradicts : (text : List ℕ) → HasNoPoint text → Contains text 46 → EndsInDigit text
contradicts text none point = absurd (All-contains (λ b. b ≢ 46) text 46 none point refl)

pub exact_end : (places : ℕ) (z : ℤ) → nat_abs z < 10 ^ 64 → Contains (exact_decimal places z) 46
    → EndsInDigit (exact_decimal places z)
unfolding exact_decimal
exact_end places (pos n) small point =
    elim (unsigned_end places n small (eq-zero-or-pos (n % 10 ^ places))) [
      | inl none ↦ contradicts (unsigned_exact places n) none point
      | inr end ↦ end
    ]
exact_end places (negsuc n) small point =
    elim (unsigned_end places (suc n) small (eq-zero-or-pos (suc n % 10 ^ places))) [
      | inl none ↦
          contradicts (45 ∷ unsigned_exact places (suc n)) (All-cons (λ b. b ≢ 46) 45 _ (λ e. absurd (omega arith)) none) point
      | inr end ↦ with_front_byte 45 (unsigned_exact places (suc n)) end
    ]

-- the digits of a whole number begin with 0 only if the number is 0
HasFirst : ℕ → List ℕ → Type 0
HasFirst n ds = (0 < length ds) × (0 < n → 48 < get_or ds 0 0)

first_of : (n : ℕ) → n < 10 ^ 64 → HasFirst n (decimal n)
unfolding HasFirst
first_of = decimal_by_steps_wide HasFirst (λ n small. (omega arith, λ some. omega arith)) (λ n ds large first. (
  omega (arith, length-append ds ((48 + n % 10) ∷ [])),
  λ some. omega (arith, get_or_append_left ds ((48 + n % 10) ∷ []) 0 0 first.0, first.1 (omega arith)),
))

-- the leading digits of a text that has a whole part
front_of : (n : ℕ) (tail : List ℕ) → n < 10 ^ 64 → take_while is_ascii_digit tail ≡ [] → get_or (decimal n ++ tail) 0 0 ≡ 48
    → (n ≡ 0) ⊎ (0 < n) → take_while is_ascii_digit (decimal n ++ tail) ≡ 48 ∷ []
unfolding HasFirst
front_of n tail small begins zeros (inl none) =
    stops (decimal n) tail (is_whole n small).digits begins ∙ ap decimal none ∙ decimal_digit 0 (omega arith)
front_of n tail small begins zeros (inr some) =
    let first = first_of n small in
    absurd (omega (arith, get_or_append_left (decimal n) tail 0 0 first.0, first.1 some))

unsigned_front : (places n : ℕ) → n < 10 ^ 64 → get_or (unsigned_exact places n) 0 0 ≡ 48
    → take_while is_ascii_digit (unsigned_exact places n) ≡ 48 ∷ []
unsigned_front places n small zeros =
    let whole = n / 10 ^ places in
    let below : whole < 10 ^ 64 = omega (arith, div-le_self n (10 ^ places)) in
    front_of whole (fraction_text places (n % 10 ^ places)) below (tail_begins places (n % 10 ^ places)) zeros (eq-zero-or-pos whole)

pub exact_front : (places : ℕ) (z : ℤ) → nat_abs z < 10 ^ 64 → get_or (without_minus (exact_decimal places z)) 0 0 ≡ 48
    → take_while is_ascii_digit (without_minus (exact_decimal places z)) ≡ 48 ∷ []
unfolding exact_decimal
exact_front places (pos n) small zeros =
    let same = (starts places n small).1 in
    ap (take_while is_ascii_digit) same ∙ unsigned_front places n small (sym (ap (λ t. get_or t 0 0) same) ∙ zeros)
exact_front places (negsuc n) small zeros = unsigned_front places (suc n) small zeros

pub exact_sign : (places : ℕ) (z : ℤ) → nat_abs z < 10 ^ 64 → has_minus (exact_decimal places z) ≡ true ↔ (z <ℤ pos 0)
unfolding exact_decimal
exact_sign places (pos n) small = let none = (starts places n small).0 in (λ minus. absurd (cc), λ below. absurd (omega (arith, ints)))
exact_sign places (negsuc n) small = (λ _. omega (arith, ints), λ _. refl)

pub exact_zero : (places : ℕ) → exact_decimal places (pos 0) ≡ 48 ∷ []
unfolding exact_decimal
exact_zero places =
    rw (zero-div (10 ^ places), zero-mod (10 ^ places)) (append-nil (decimal 0) ∙ decimal_digit 0 (omega arith))
