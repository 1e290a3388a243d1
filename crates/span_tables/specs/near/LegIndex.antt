-- An index of spreads by their first and last legs: which spreads it has, and which legs have a remaining delta.
use Rattle.std.specs.Prelude.{◌≡◌, ℕ, ◌≤◌, ◌%◌, slice_index_or}
use Rattle.std.specs.Int.{bit_at}
use Rattle.span_money.specs.declared.bits.TheConstants.{BITS}
use Rattle.span_tables.specs.Sides.{market_side}
use Rattle.span_tables.specs.Slots.{IsMarked, numbers_on}
use Rattle.span_tables.specs.declared.leg_index.Found.{Found}
use Rattle.span_tables.specs.declared.leg_index.LegAt.{LegAt}
use Rattle.span_tables.specs.declared.leg_index.LegIndex.{LegIndex}
use Rattle.span_tables.specs.declared.leg_index.LegWords.{LegWords}
use Rattle.span_tables.specs.declared.leg_index.SideSpreads.{SideSpreads}
use Rattle.span_tables.specs.declared.sides.Direction.{Direction}
use Rattle.span_tables.specs.declared.sides.Direction.TheVariants.{ALong, AShort}
use Rattle.span_tables.specs.declared.sides.Side.{Side}
use Rattle.span_tables.specs.declared.sides.Side.TheVariants as side
use Rattle.span_tables.specs.declared.slots.OpenSides.{OpenSides}

-- the word has every number of another
abbrev pub HasWord : ℕ → ℕ → Type 0
HasWord word other = (number : ℕ) → bit_at other number ≤ bit_at word number

-- the spreads with a leg on a side
abbrev pub on_side : Side → SideSpreads → ℕ
on_side side.A spreads = spreads.a
on_side side.B spreads = spreads.b

-- all the others are among the spreads
pub record HasMore (words others : LegWords) : Type 0 where
  pub first : (s : Side) → HasWord (on_side s words.first) (on_side s others.first)
  pub last : (s : Side) → HasWord (on_side s words.last) (on_side s others.last)

-- no spread
abbrev pub no_words : LegWords
no_words = record { first = record { a = 0; b = 0 }; last = record { a = 0; b = 0 } }

-- the spreads of the slot of a number
abbrev pub words_at : LegIndex → ℕ → LegWords
words_at index number = slice_index_or index.slots (number % BITS) no_words

-- a spread is among the spreads of the slot of its first leg, and of the slot of its last leg
pub record HasEnds (index : LegIndex) (spread : ℕ) (f l : LegAt) : Type 0 where
  pub first : bit_at (on_side f.side (words_at index f.number).first) spread ≡ 1
  pub last : bit_at (on_side l.side (words_at index l.number).last) spread ≡ 1

-- the number of a leg is marked on the side of the market that the leg needs in a direction
abbrev pub IsOpenLeg : OpenSides → Direction → LegAt → Type 0
IsOpenLeg sides d leg = IsMarked (numbers_on (market_side d leg.side) sides) leg.number

-- the spreads that may be formed in a direction
abbrev pub found_in : Direction → Found → ℕ
found_in ALong found = found.a_long
found_in AShort found = found.a_short
