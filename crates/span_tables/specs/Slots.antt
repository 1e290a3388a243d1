-- Sets of numbers as words of slots: a number has the slot of its remainder by `BITS`.
use Rattle.std.specs.Prelude.{◌≡◌, ◌<◌, ◌%◌, ◌^◌, ℕ, ℤ}
use Rattle.std.specs.Int.{bit_at}
use Rattle.std.specs.Int.RustNames.{bit_or}
use Rattle.span_money.specs.declared.bits.TheConstants.{BITS}
use Rattle.span_tables.specs.Sides.{part_on}
use Rattle.span_tables.specs.declared.sides.MarketSide.{MarketSide}
use Rattle.span_tables.specs.declared.sides.MarketSide.TheVariants.{Long, Short}
use Rattle.span_tables.specs.declared.slots.OpenSides.{OpenSides}

-- the slot of the number is marked
abbrev pub IsMarked : ℕ → ℕ → Type 0
IsMarked word number = bit_at word (number % BITS) ≡ 1

-- the word with the slot of the number marked
abbrev pub with_slot : ℕ → ℕ → ℕ
with_slot word number = bit_or word (2 ^ (number % BITS))

-- the numbers that may have a remaining delta on a side of the market
abbrev pub numbers_on : MarketSide → OpenSides → ℕ
numbers_on Long sides = sides.long
numbers_on Short sides = sides.short

-- the number of a remaining delta is marked on the side of the market that the delta is on
abbrev pub IsOpenAt : OpenSides → ℕ → ℤ → Type 0
IsOpenAt sides number rest = (on : MarketSide) → 0 < part_on on rest → IsMarked (numbers_on on sides) number
