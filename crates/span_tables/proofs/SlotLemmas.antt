-- The effect of marking a number's slot in a word.
use Rattle.std.proofs.Common.{◌≢◌, ◌%◌, ◌^◌, ℕ, arith}
use Rattle.std.proofs.lemmas.Nat.Bits.{bit_at-lt, bit_at-pow_other, bit_at-pow_same, bit_at_or}
use Rattle.span_tables.specs.Slots.{IsMarked, with_slot}
use Rattle.span_money.specs.declared.bits.TheConstants.{BITS}

-- a number is marked after it was added
pub marked_new : (word number : ℕ) → IsMarked (with_slot word number) number
marked_new word number =
    let e = bit_at_or word (2 ^ (number % BITS)) (number % BITS) in
    let one = bit_at-pow_same (number % BITS) in
    let lt = bit_at-lt word (number % BITS) in
    omega (arith, e, one, lt)

-- what was marked stays marked
pub marked_kept : (word number other : ℕ) → IsMarked word other → IsMarked (with_slot word number) other
marked_kept word number other h =
    let e = bit_at_or word (2 ^ (number % BITS)) (other % BITS) in
    let lt = bit_at-lt (2 ^ (number % BITS)) (other % BITS) in
    omega (arith, e, lt, h)

-- a number of another slot is marked only if it was marked before
pub marked_before : (word number other : ℕ) → other % BITS ≢ number % BITS → IsMarked (with_slot word number) other
    → IsMarked word other
marked_before word number other apart marked =
    omega (arith, marked, bit_at_or word (2 ^ (number % BITS)) (other % BITS), bit_at-pow_other (number % BITS) (other % BITS) apart)
