-- An exact decimal is read as the number that it was written from.
use Rattle.std.proofs.Common.{◌≡◌, ℕ, zero, suc, ◌+◌, ◌-◌, ◌*◌, ◌/◌, ◌%◌, ◌^◌, ◌<◌, ◌≤◌, ◌==◌, Bool, true, false, cond}
use Rattle.std.proofs.Common.{List, [], ◌∷◌, ◌++◌, ◌⊎◌, length, drop, refl, sym, ap, ◌∙◌, subst, inl, inr, arith, eq-zero-or-pos}
use Rattle.std.specs.Prelude.{ℤ, pos, negsuc, neg_ℤ, nat_abs, fold}
use Rattle.std.specs.Char.{is_ascii_digit}
use Rattle.std.specs.Fmt.{decimal}
use Rattle.std.specs.List.{list_all, take_while}
use Rattle.std.proofs.Math.Nat.{div-le_self, div-lt_iff_lt-mul, mod-lt, pow-suc}
use Rattle.std.proofs.lemmas.Nat.{div-add-mod', pow-add}
use Rattle.std.proofs.lemmas.Bool.Decides.{nat_tests}
use Rattle.std.proofs.lemmas.Fmt.{decimal_is_IsNumeral_wide}
use Rattle.std.proofs.lemmas.List.{drop_at}
use Rattle.std.proofs.lemmas.List.Sums.{take_while-cons}
use Rattle.span_money.specs.ExactDecimals.{behind_point, exact_decimal, exact_value, fraction_digits, fraction_text}
use Rattle.span_money.specs.ExactDecimals.{parts_value, unsigned_exact, unsigned_value}
use Rattle.span_money.specs.Numbers.{digits_value, has_minus, with_sign, without_minus}
use Rattle.span_money.proofs.DecimalLaws.{plain, stops}
use Rattle.span_money.proofs.ExactLemmas.{no_digits, power_positive}
use Rattle.span_money.proofs.TextLaws.{own}

-- appending digits to a number multiplies it by 10 for each digit and adds their value
values_after : (a : ℕ) (ds : List ℕ) → fold (λ n d. n * 10 + (d - 48)) a ds ≡ a * 10 ^ length ds + digits_value ds
values_after a [] = omega arith
values_after a (d ∷ ds) =
    omega (arith, values_after (a * 10 + (d - 48)) ds, values_after (0 * 10 + (d - 48)) ds, ap (λ x. a * x) (pow-suc 10 (length ds)))

-- the digits of a fraction with this number of decimal places
record IsFraction (k f : ℕ) (ds : List ℕ) : Type 0 where
  digits : list_all is_ascii_digit ds ≡ true
  few : length ds ≤ k
  value : digits_value ds * 10 ^ (k - length ds) ≡ f

one_place_more : (k d r : ℕ) (ds : List ℕ) → d < 10 → IsFraction k r ds → IsFraction (suc k) (d * 10 ^ k + r) ((48 + d) ∷ ds)
one_place_more k d r ds small is =
    let few : length ds ≤ k = is.few in
    let left : suc k - suc (length ds) ≡ k - length ds = omega arith in
    let all : k ≡ length ds + (k - length ds) = omega arith in
    let powers : 10 ^ k ≡ 10 ^ length ds * 10 ^ (k - length ds) = ap (λ n. 10 ^ n) all ∙ pow-add 10 (length ds) (k - length ds) in
    let first : digits_value ((48 + d) ∷ ds) ≡ d * 10 ^ length ds + digits_value ds =
    values_after (0 * 10 + ((48 + d) - 48)) ds ∙ ap (λ n. n * 10 ^ length ds + digits_value ds) (omega arith) in
    let unsigned_value : digits_value ds * 10 ^ (k - length ds) ≡ r = is.value in
    record {
      digits = grind (arith, nat_tests);
      few = omega arith;
      value = rw (first, left) (omega (arith, ap (λ x. d * x) powers));
    }

is_fraction : (k f : ℕ) → f < 10 ^ k → IsFraction k f (fraction_digits k f)
is_fraction zero f below = record { digits = refl; few = omega arith; value = omega arith }
is_fraction (suc k) f below = by_rest (is_fraction k (f % 10 ^ k) (mod-lt f (power_positive k))) (eq-zero-or-pos f) where
  by_rest : IsFraction k (f % 10 ^ k) (fraction_digits k (f % 10 ^ k)) → (f ≡ 0) ⊎ (0 < f)
      → IsFraction (suc k) f (fraction_digits (suc k) f)
  by_rest rest (inl none) =
      let nothing : IsFraction (suc k) 0 [] = record { digits = refl; few = omega arith; value = omega arith } in
      subst (λ n. IsFraction (suc k) n (fraction_digits (suc k) n)) (sym none) nothing
  by_rest rest (inr some) =
      let off : (f == 0) ≡ false = grind (arith, nat_tests) in
      let lt : f < 10 * 10 ^ k = omega (arith, pow-suc 10 k) in
      let small : f / 10 ^ k < 10 = (div-lt_iff_lt-mul (power_positive k)).1 lt in
      let ds = fraction_digits k (f % 10 ^ k) in
      rw off (subst (λ n. IsFraction (suc k) n ((48 + f / 10 ^ k) ∷ ds)) (div-add-mod' f (10 ^ k))
      (one_place_more k (f / 10 ^ k) (f % 10 ^ k) ds small rest))

-- the digits of a whole part
pub record IsWhole (n : ℕ) (ds : List ℕ) : Type 0 where
  pub some : 0 < length ds
  pub digits : list_all is_ascii_digit ds ≡ true
  pub value : digits_value ds ≡ n

pub is_whole : (n : ℕ) → n < 10 ^ 64 → IsWhole n (decimal n)
is_whole n small =
    let is = decimal_is_IsNumeral_wide n small in
    record { some = is.0.0; digits = own.from (decimal n) is.0.1; value = own.same (decimal n) is.0.1 ∙ is.1 }

-- no digit follows the whole part directly, and the digits after the point are the fraction's
pub tail_begins : (places f : ℕ) → take_while is_ascii_digit (fraction_text places f) ≡ []
tail_begins places f = by_test (f == 0) where
  by_test : (t : Bool) → take_while is_ascii_digit (cond t [] (46 ∷ fraction_digits places f)) ≡ []
  by_test true = refl
  by_test false = take_while-cons is_ascii_digit 46 (fraction_digits places f)

tail_digits : (places f : ℕ) → behind_point (fraction_text places f) ≡ fraction_digits places f
tail_digits places f = by_rest (eq-zero-or-pos f) where
  by_rest : (f ≡ 0) ⊎ (0 < f) → behind_point (fraction_text places f) ≡ fraction_digits places f
  by_rest (inl none) =
      subst (λ n. behind_point (fraction_text places n) ≡ fraction_digits places n) (sym none) (sym (no_digits places))
  by_rest (inr some) = let off : (f == 0) ≡ false = grind (arith, nat_tests) in rw off

spells : (places n : ℕ) → n < 10 ^ 64 → unsigned_value places (unsigned_exact places n) ≡ n
spells places n small =
    let one = 10 ^ places in
    let front = decimal (n / one) in
    let tail = fraction_text places (n % one) in
    let digits = fraction_digits places (n % one) in
    let below : n / one < 10 ^ 64 = omega (arith, div-le_self n one) in
    let whole = is_whole (n / one) below in
    let part = is_fraction places (n % one) (mod-lt n (power_positive places)) in
    let begins : take_while is_ascii_digit (front ++ tail) ≡ front = stops front tail whole.digits (tail_begins places (n % one)) in
    let behind : behind_point (drop (length front) (front ++ tail)) ≡ digits =
    ap behind_point (drop_at front tail (length front) refl) ∙ tail_digits places (n % one) in
    ap (λ t. parts_value places t (behind_point (drop (length t) (front ++ tail)))) begins
    ∙ ap (parts_value places front) behind
    ∙ ap (λ w. w * one + digits_value digits * 10 ^ (places - length digits)) whole.value
    ∙ ap (λ r. n / one * one + r) part.value ∙ div-add-mod' n one

-- a text that does not begin with a minus
signless : (places : ℕ) (text : List ℕ) → has_minus text ≡ false → without_minus text ≡ text
    → exact_value places text ≡ pos (unsigned_value places text)
signless places text off same =
    ap (λ b. with_sign b (unsigned_value places (without_minus text))) off ∙ ap (λ t. pos (unsigned_value places t)) same

pub starts : (places n : ℕ) → n < 10 ^ 64
    → (has_minus (unsigned_exact places n) ≡ false) × (without_minus (unsigned_exact places n) ≡ unsigned_exact places n)
starts places n small =
    let below : n / 10 ^ places < 10 ^ 64 = omega (arith, div-le_self n (10 ^ places)) in
    let whole = is_whole (n / 10 ^ places) below in
    plain (decimal (n / 10 ^ places)) (fraction_text places (n % 10 ^ places)) whole.some whole.digits

pub exact_read_back : (places : ℕ) (z : ℤ) → nat_abs z < 10 ^ 64 → exact_value places (exact_decimal places z) ≡ z
unfolding exact_decimal
exact_read_back places (pos n) small =
    let start = starts places n small in
    signless places (unsigned_exact places n) start.0 start.1 ∙ ap pos (spells places n small)
exact_read_back places (negsuc n) small = ap (λ m. neg_ℤ (pos m)) (spells places (suc n) small)
