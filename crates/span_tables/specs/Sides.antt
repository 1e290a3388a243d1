-- The market sides of a spread's legs in a direction, and the number of spreads that they form.
use Rattle.std.specs.Prelude.{ℕ, ◌/◌, ◌≤◌, min, List, [], ◌∷◌, ℤ, pos, ◌+ℤ◌, ◌-ℤ◌}
use Rattle.span_money.specs.Numbers.{positive_part, negative_part}
use Rattle.span_tables.specs.declared.sides.Side.{Side}
use Rattle.span_tables.specs.declared.sides.Side.TheVariants as side
use Rattle.span_tables.specs.declared.sides.Direction.{Direction}
use Rattle.span_tables.specs.declared.sides.Direction.TheVariants.{ALong, AShort}
use Rattle.span_tables.specs.declared.sides.MarketSide.{MarketSide}
use Rattle.span_tables.specs.declared.sides.MarketSide.TheVariants.{Long, Short}

-- the market side of a leg's side, in a direction
abbrev pub market_side : Direction → Side → MarketSide
market_side ALong side.A = Long
market_side ALong side.B = Short
market_side AShort side.A = Short
market_side AShort side.B = Long

-- the part of a remaining delta on a market side: a positive one is long, a negative one is short
abbrev pub part_on : MarketSide → ℤ → ℕ
part_on Long z = positive_part z
part_on Short z = negative_part z

-- a remaining delta after units on a market side were used
abbrev pub less_used : MarketSide → ℤ → ℕ → ℤ
less_used Long z used = z -ℤ pos used
less_used Short z used = z +ℤ pos used

-- a remaining delta is at most the delta on each side of the market
pub record IsLeftOf (delta rest : ℤ) : Type 0 where
  pub long : positive_part rest ≤ positive_part delta
  pub short : negative_part rest ≤ negative_part delta

-- the side that a leg can use, and its ratio
pub record Room : Type 0 where
  pub side : ℕ
  pub ratio : ℕ

-- the number of spreads formed: the greatest n such that n * ratio is at most the side, for every leg
abbrev pub spreads_formed : List Room → ℕ
spreads_formed [] = 0
spreads_formed (r ∷ []) = r.side / r.ratio
spreads_formed (r ∷ s ∷ rs) = min (r.side / r.ratio) (spreads_formed (s ∷ rs))
