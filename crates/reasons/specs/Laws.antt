-- The definitions used by the lemmas.
use Rattle.std.specs.Prelude.{ℕ, ◌≡◌, ◌+◌, ◌++◌, ◌==◌, max, Bool, true, false, not, Contains, List, filter, length, codes}
use Rattle.std.specs.Prelude.{ℤ, pos, ◌+ℤ◌, ◌*ℤ◌, nat_abs}
use Rattle.std.specs.Fmt.{decimal}
use Rattle.std.specs.List.{range_with_len}
use Rattle.span_money.specs.LineFields.{Line}
use Rattle.span_money.specs.Numbers.{int_sum_by}
use Rattle.span_tables.specs.Accepted.{IsWithinLimits}
use Rattle.span_tables.specs.Holdings.{ArePortfolio, fits}
use Rattle.span_tables.specs.Sides.{market_side}
use Rattle.span_tables.specs.Tables.{AcceptedTables, inters_of}
use Rattle.span_tables.specs.declared.portfolios.Holding.{Holding}
use Rattle.span_tables.specs.declared.records.CommodityLeg.{CommodityLeg}
use Rattle.span_tables.specs.declared.records.Inter.{Inter}
use Rattle.span_tables.specs.declared.records.MinimumMethod.{MinimumMethod}
use Rattle.span_tables.specs.declared.records.MinimumMethod.TheVariants as method
use Rattle.span_tables.specs.declared.sides.Side.{Side}
use Rattle.span_tables.specs.declared.sides.Side.TheVariants as side
use Rattle.span_tables.specs.declared.records.Spot.{Spot}
use Rattle.span_tables.specs.declared.sides.Direction.{Direction}
use Rattle.span_tables.specs.declared.sides.MarketSide.{MarketSide}
use Rattle.span_tables.specs.declared.sides.MarketSide.TheVariants.{Long, Short}
use Rattle.spread_stage.specs.Deltas.{units_at}
use Rattle.inter_credit.specs.OptionValue.{position_value}
use Rattle.plan_ir.specs.Figures.{deltas_at, held_at, is_commodity_held, spots_at}
use Rattle.reasons.specs.Lines.{lines_of, number_at, text_at}

-- short calls and short puts as a method counts them: the sum of both, or the larger of the two
abbrev pub counted : MinimumMethod → ℕ → ℕ → ℕ
counted method.Sum calls puts = calls + puts
counted method.Max calls puts = max calls puts

-- the numbers of the commodities that have lines, that is, in which an account with these holdings holds a contract
abbrev pub numbers_shown : AcceptedTables → List Holding → List ℕ
numbers_shown t holdings = filter (is_commodity_held t holdings) (range_with_len 0 (length t.commodities))

-- the sum of the values of the positions in the commodity of number c
abbrev pub values_shown_at : AcceptedTables → List Holding → ℕ → ℤ
values_shown_at t holdings c = int_sum_by position_value (held_at t holdings c)

-- the letter of a side
abbrev pub side_letter : Side → List ℕ
side_letter side.A = codes "A"
side_letter side.B = codes "B"

-- a market side is the long one
abbrev pub is_long : MarketSide → Bool
is_long Long = true
is_long Short = false

-- the legs of a side are long in a direction
abbrev pub is_long_in : Direction → Side → Bool
is_long_in d s = is_long (market_side d s)

-- the SPOT records of the commodity of number c whose month has a delta other than 0
abbrev pub spots_with_delta : AcceptedTables → List Holding → ℕ → List Spot
spots_with_delta t holdings c = filter (λ s. not (nat_abs (units_at (deltas_at t holdings c) s.month) == 0)) (spots_at t c)

-- An INTER line belongs to a record with a leg in the commodity of number c. It has the record's priority and basis
-- points, and its delta used is its number of spreads times the ratio of this leg.
pub record IsOfRecord (t : AcceptedTables) (c : ℕ) (l : Line) : Type 0 where
  pub spread : Inter
  pub leg : CommodityLeg
  pub recorded : Contains (inters_of t) spread
  pub has_leg : Contains spread.legs leg
  pub of_commodity : leg.commodity ≡ c
  pub priority : text_at l 0 ≡ decimal spread.priority
  pub used : number_at 8 l 3 ≡ number_at 4 l 2 *ℤ pos leg.ratio
  pub basis_points : number_at 0 l 4 ≡ pos spread.basis_points

-- A SPOT line agrees with the MONTH line of its month. Its delta left is the size of the month's delta left, and used
-- plus left is the size of the month's delta.
pub record AgreesWithItsMonth (lines : List Line) (l : Line) : Type 0 where
  pub month_line : Line
  pub shown : Contains (lines_of (codes "MONTH") lines) month_line
  pub month : text_at l 0 ≡ text_at month_line 0
  pub left : number_at 8 l 3 ≡ pos (nat_abs (number_at 8 month_line 2))
  pub all : number_at 8 l 1 +ℤ number_at 8 l 3 ≡ pos (nat_abs (number_at 8 month_line 1))

-- a list is contained in another as one contiguous piece
abbrev pub StandsIn : {A : Type 0} → List A → List A → Type 0
StandsIn {A} part whole = (before : List A) × ((behind : List A) × (whole ≡ before ++ (part ++ behind)))

-- what accepted files provide: tables within their limits, and the holdings of an account, which are in contracts of
-- these tables
pub record AreAccepted (t : AcceptedTables) (holdings : List Holding) : Type 0 where
  pub limits : IsWithinLimits t
  pub portfolio : ArePortfolio holdings
  pub known : fits (length t.contracts) holdings ≡ true
