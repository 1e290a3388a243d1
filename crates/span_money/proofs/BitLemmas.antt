-- One bit of a word is cleared.
use Rattle.std.proofs.Common.{◌≡◌, ◌≢◌, ℕ, ◌*◌, ◌^◌, ◌%◌, ◌<◌, ◌≤◌, ◌⊎◌, inl, inr, bit_and, ap, sym, ◌∙◌, arith}
use Rattle.std.specs.Int.{w64, bit_at, bit_not, trailing_zeros}
use Rattle.std.proofs.lemmas.Bool.{cases_lt, cases_eq}
use Rattle.std.proofs.lemmas.Nat.{and_le_l}
use Rattle.std.proofs.lemmas.Nat.Bits.{bit_at_above, bit_at_clear_same, bit_at_clear_other, bit_at-trailing_zeros}
use Rattle.span_money.specs.near.Bits.{IsWithout, TakesFirst}
use Rattle.span_money.specs.declared.bits.TheConstants.{BITS}

pub is_without : (word number : ℕ) → word < 2 ^ 64 → number < BITS
    → IsWithout word number (bit_and word (bit_not w64 (1 * 2 ^ number % 2 ^ 64)))
is_without word number fits within =
    record { gone = bit_at_clear_same w64 word number within; kept = λ other apart. by other apart (cases_lt other BITS) }
  where
    by : (other : ℕ) → other ≢ number → (other < BITS) ⊎ (BITS ≤ other)
        → bit_at (bit_and word (bit_not w64 (1 * 2 ^ number % 2 ^ 64))) other ≡ bit_at word other
    by other apart (inl low) = bit_at_clear_other w64 word number within other low apart
    by other apart (inr high) =
        let small : bit_and word (bit_not w64 (1 * 2 ^ number % 2 ^ 64)) < 2 ^ 64 =
        omega (arith, fits, and_le_l word (bit_not w64 (1 * 2 ^ number % 2 ^ 64))) in
        bit_at_above (bit_and word (bit_not w64 (1 * 2 ^ number % 2 ^ 64))) 64 other small high
        ∙ sym (bit_at_above word 64 other fits high)

-- a word is smaller without a number that it has
pub without_smaller : (before number after : ℕ) → after ≤ before → bit_at before number ≡ 1 → IsWithout before number after
    → after < before
without_smaller before number after le has without = by (cases_eq after before)
  where
    by : (after ≡ before) ⊎ (after ≢ before) → after < before
    by (inl same) = absurd (omega (arith, has, without.gone, ap (λ n. bit_at n number) same))
    by (inr apart) = omega (arith, le, apart)

-- the lowest number of a word that is not empty is taken
pub takes_first : (before after : ℕ) → before < 2 ^ 64 → 0 < before → after ≤ before
    → IsWithout before (trailing_zeros w64 before) after → TakesFirst before (trailing_zeros w64 before) after
takes_first before after fits some le without =
    let low = bit_at-trailing_zeros w64 before some fits in
    record {
      within = low.0;
      found = low.1;
      lowest = low.2;
      taken = without;
      smaller = without_smaller before (trailing_zeros w64 before) after le low.1 without;
    }
