-- Words of 64 bits as sets of numbers.
use Rattle.std.specs.Prelude.{◌≡◌, ◌≢◌, ℕ, ◌<◌}
use Rattle.std.specs.Int.{bit_at}
use Rattle.span_money.specs.declared.bits.TheConstants.{BITS}

-- the word without a number: its bit is 0, and every other bit is as before
pub record IsWithout (before number after : ℕ) : Type 0 where
  pub gone : bit_at after number ≡ 0
  pub kept : (other : ℕ) → other ≢ number → bit_at after other ≡ bit_at before other

-- the number is the lowest in the word, and was taken from it
pub record TakesFirst (before first after : ℕ) : Type 0 where
  pub within : first < BITS
  pub found : bit_at before first ≡ 1
  pub lowest : (lower : ℕ) → lower < first → bit_at before lower ≡ 0
  pub taken : IsWithout before first after
  pub smaller : after < before
