-- Steps of writing a fraction.
use Rattle.std.proofs.Common.{◌≡◌, ℕ, zero, suc, ◌+◌, ◌-◌, ◌/◌, ◌%◌, ◌^◌, ◌<◌, ◌≤◌, ◌==◌, ◌&&◌, Bool, true, false}
use Rattle.std.proofs.Common.{List, [], ◌∷◌, ◌++◌, get_or, refl, sym, ap, ◌∙◌, inl, inr, arith, eq-zero-or-pos}
use Rattle.std.proofs.Math.Nat.{one-le-pow}
use Rattle.std.proofs.lemmas.Bool.Decides.{nat_tests}
use Rattle.std.proofs.lemmas.List.{append_assoc, append-nil}
use Rattle.span_money.specs.declared.exact.TheConstants.{POWERS}
use Rattle.span_money.specs.ExactDecimals.{fraction_digits}
use Rattle.std.proofs.lemmas.Bool.{and_parts}

abbrev are_powers : ℕ → Bool
are_powers zero = true
are_powers (suc k) = (get_or POWERS k 0 == 10 ^ k) && are_powers k

powers_below : (n k : ℕ) → are_powers n ≡ true → k < n → get_or POWERS k 0 ≡ 10 ^ k
powers_below zero k t h = absurd (omega arith)
powers_below (suc n) k t h =
    let parts = and_parts (get_or POWERS n 0 == 10 ^ n) (are_powers n) t in
    elim (eq-zero-or-pos (n - k)) [
      | inl z ↦ let e : k ≡ n = omega arith in rw e (grind (arith, nat_tests))
      | inr more ↦ powers_below n k parts.1 (omega arith)
    ]

pub power_at : (k : ℕ) → k ≤ 18 → get_or POWERS k 0 ≡ 10 ^ k
power_at k few = powers_below 19 k refl (omega arith)

-- a fraction that is not 0 has decimal places
pub has_places : (k f : ℕ) → 0 < f → f < 10 ^ k → 0 < k
has_places zero f some below = absurd (omega arith)
has_places (suc k) f some below = omega arith

-- nothing is left to write
pub no_digits : (k : ℕ) → fraction_digits k 0 ≡ []
no_digits zero = refl
no_digits (suc k) = refl

pub first_digit : (k f : ℕ) → 0 < k → 0 < f
    → fraction_digits k f ≡ (48 + f / 10 ^ (k - 1)) ∷ fraction_digits (k - 1) (f % 10 ^ (k - 1))
first_digit zero f places some = absurd (omega arith)
first_digit (suc k) f places some =
    let e : suc k - 1 ≡ k = omega arith in
    let off : (f == 0) ≡ false = grind (arith, nat_tests) in
    rw (e, off)

pub power_positive : (k : ℕ) → 0 < 10 ^ k
power_positive k = one-le-pow k 10 (omega arith)

-- one step: a digit is written, and the remaining fraction has one decimal place less
pub one_more : (out new start all : List ℕ) (k f : ℕ) → 0 < f → f < 10 ^ k → out ++ fraction_digits k f ≡ start ++ all
    → new ≡ out ++ ((48 + f / 10 ^ (k - 1)) ∷ []) → new ++ fraction_digits (k - 1) (f % 10 ^ (k - 1)) ≡ start ++ all
one_more out new start all k f some below before written =
    let rest = fraction_digits (k - 1) (f % 10 ^ (k - 1)) in
    ap (λ t. t ++ rest) written ∙ append_assoc out ((48 + f / 10 ^ (k - 1)) ∷ []) rest
    ∙ ap (λ t. out ++ t) (sym (first_digit k f (has_places k f some below) some)) ∙ before

-- the last step: nothing is left
pub no_more : (out start all : List ℕ) (k f : ℕ) → f ≡ 0 → out ++ fraction_digits k f ≡ start ++ all → out ≡ start ++ all
no_more out start all k f none before =
    sym (append-nil out) ∙ ap (λ t. out ++ t) (sym (ap (fraction_digits k) none ∙ no_digits k)) ∙ before
