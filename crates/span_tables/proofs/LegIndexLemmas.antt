-- An index of spreads by their first and last legs: words with more spreads, and the spreads that are found.
use Rattle.std.proofs.Common.{◌≡◌, ℕ, bit_and, bit_or, arith}
use Rattle.std.specs.Int.{bit_at}
use Rattle.std.proofs.lemmas.Nat.Bits.{bit_at-lt, bit_at_and, bit_at_or}
use Rattle.span_tables.specs.Sides.{market_side}
use Rattle.span_tables.specs.declared.leg_index.Found.{Found}
use Rattle.span_tables.specs.declared.leg_index.LegWords.{LegWords}
use Rattle.span_tables.specs.declared.leg_index.SideSpreads.{SideSpreads}
use Rattle.span_tables.specs.declared.sides.Direction.{Direction}
use Rattle.span_tables.specs.declared.sides.Direction.TheVariants.{ALong, AShort}
use Rattle.span_tables.specs.declared.sides.MarketSide.{MarketSide}
use Rattle.span_tables.specs.declared.sides.MarketSide.TheVariants.{Long, Short}
use Rattle.span_tables.specs.declared.sides.Side.{Side}
use Rattle.span_tables.specs.declared.sides.Side.TheVariants as side
use Rattle.span_tables.specs.near.LegIndex.{HasWord, found_in, on_side}

pub same_word : (word : ℕ) → HasWord word word
same_word word i = omega arith

pub left_word : (a b : ℕ) → HasWord (bit_or a b) a
left_word a b i = omega (arith, bit_at_or a b i)

pub right_word : (a b : ℕ) → HasWord (bit_or a b) b
right_word a b i = omega (arith, bit_at_or a b i)

-- a bit of a word is a bit of a word that has more
pub has_bit : (word other i : ℕ) → HasWord word other → bit_at other i ≡ 1 → bit_at word i ≡ 1
has_bit word other i more one = omega (arith, more i, one, bit_at-lt word i)

-- the spreads with a leg on a side of the market
abbrev pub words_on : MarketSide → LegWords → LegWords → LegWords
words_on Long long short = long
words_on Short long short = short

-- the spreads whose leg is on the side of the market that it needs in a direction
abbrev needed : Direction → SideSpreads → SideSpreads → ℕ
needed ALong long short = bit_or long.a short.b
needed AShort long short = bit_or short.a long.b

is_needed : (of : LegWords → SideSpreads) (d : Direction) (s : Side) (long short : LegWords)
    → HasWord (needed d (of long) (of short)) (on_side s (of (words_on (market_side d s) long short)))
is_needed of ALong side.A long short = left_word (of long).a (of short).b
is_needed of ALong side.B long short = right_word (of long).a (of short).b
is_needed of AShort side.A long short = left_word (of short).a (of long).b
is_needed of AShort side.B long short = right_word (of short).a (of long).b

-- a spread whose first and last legs are on the sides of the market that they need is found
pub is_found : (long short : LegWords) (spread : ℕ) (d : Direction) (f l : Side)
    → bit_at (on_side f (words_on (market_side d f) long short).first) spread ≡ 1
    → bit_at (on_side l (words_on (market_side d l) long short).last) spread ≡ 1
    → bit_at (bit_and (needed d long.first short.first) (needed d long.last short.last)) spread ≡ 1
is_found long short spread d f l first last =
    let a = has_bit (needed d long.first short.first) _ spread (is_needed (λ w. w.first) d f long short) first in
    let b = has_bit (needed d long.last short.last) _ spread (is_needed (λ w. w.last) d l long short) last in
    omega (arith, a, b, bit_at_and (needed d long.first short.first) (needed d long.last short.last) spread)

-- the words of the spreads that are found
pub found_words : (found : Found) (long short : LegWords)
    → found.a_long ≡ bit_and (needed ALong long.first short.first) (needed ALong long.last short.last)
    → found.a_short ≡ bit_and (needed AShort long.first short.first) (needed AShort long.last short.last)
    → (d : Direction) → found_in d found ≡ bit_and (needed d long.first short.first) (needed d long.last short.last)
found_words found long short a b ALong = a
found_words found long short a b AShort = b

-- a spread that is not found at all is not found in either direction
pub neither : (found : Found) (spread : ℕ) → bit_at (bit_or found.a_long found.a_short) spread ≡ 0 → (d : Direction)
    → bit_at (found_in d found) spread ≡ 0
neither found spread none ALong = omega (arith, none, bit_at_or found.a_long found.a_short spread)
neither found spread none AShort = omega (arith, none, bit_at_or found.a_long found.a_short spread)
