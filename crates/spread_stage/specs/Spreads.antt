-- Intracommodity spreads: the sides of tiers, what spreads use of them, and the remaining deltas and the charge
-- afterwards.
use Rattle.std.specs.Prelude.{ℕ, ◌+◌, ◌-◌, ◌*◌, min, Bool, ◌&&◌, nat_lt, nat_le, if◌then◌else◌, List, map, filter, sum_by, fold}
use Rattle.span_tables.specs.Sides.{market_side, part_on, less_used, Room, spreads_formed}
use Rattle.span_tables.specs.declared.sides.Direction.{Direction}
use Rattle.span_tables.specs.declared.sides.Direction.TheVariants.{ALong, AShort}
use Rattle.span_tables.specs.declared.sides.MarketSide.{MarketSide}
use Rattle.span_tables.specs.declared.sides.SpreadsFormed.{SpreadsFormed}
use Rattle.spread_stage.specs.declared.months.MonthUnits.{MonthUnits}
use Rattle.span_tables.specs.declared.legs.MonthLeg.{MonthLeg}
use Rattle.span_tables.specs.declared.records.Intra.{Intra}

-- the month is in the leg's tier
abbrev pub is_in_tier : MonthLeg → MonthUnits → Bool
is_in_tier leg m = nat_le leg.first m.month && nat_le m.month leg.last

-- the side of a leg's tier: the sum of its months' parts
abbrev pub tier_side : List MonthUnits → MarketSide → MonthLeg → ℕ
tier_side rests on leg = sum_by (λ m. part_on on m.units) (filter (is_in_tier leg) rests)

-- the part of a tier's side that comes from earlier months
abbrev pub side_before : List MonthUnits → MarketSide → MonthLeg → ℕ → ℕ
side_before rests on leg month =
    sum_by (λ m. part_on on m.units) (filter (λ m. is_in_tier leg m && nat_lt m.month month) rests)

-- the units that a leg uses of a month if it needs `needed` units in all: the earliest months are used first
abbrev pub used_of_month : List MonthUnits → MarketSide → MonthLeg → ℕ → MonthUnits → ℕ
used_of_month rests on leg needed m =
    if is_in_tier leg m then min (part_on on m.units) (needed - side_before rests on leg m.month) else 0

-- the remaining deltas after one leg has used what it needs
abbrev pub rests_after_leg : MarketSide → ℕ → List MonthUnits → MonthLeg → List MonthUnits
rests_after_leg on needed rests leg =
    map (λ m. record { month = m.month; units = less_used on m.units (used_of_month rests on leg needed m) }) rests

-- the remaining deltas after each leg has used what n spreads need
abbrev pub rests_after : Direction → ℕ → List MonthLeg → List MonthUnits → List MonthUnits
rests_after d n legs rests =
    fold (λ rs leg. rests_after_leg (market_side d leg.side) (n * leg.ratio) rs leg) rests legs

-- for each leg of a spread, the side that it can use in a direction, with its ratio
abbrev pub tier_rooms : Direction → List MonthLeg → List MonthUnits → List Room
tier_rooms d legs rests = map (λ leg. record { side = tier_side rests (market_side d leg.side) leg; ratio = leg.ratio }) legs

-- the remaining deltas of a commodity's months, and the exact sum of spreads formed times rate
pub record TierRests : Type 0 where
  pub rests : List MonthUnits
  pub charge : ℕ

-- the number of spreads formed in a direction, in 10^-4 spreads
abbrev pub formed_in : Intra → Direction → TierRests → ℕ
formed_in s d t = spreads_formed (tier_rooms d s.legs t.rests)

-- a spread in one direction
abbrev pub spread_one_way : Intra → Direction → TierRests → TierRests
spread_one_way s d t =
    let n = formed_in s d t in
    record { rests = rests_after d n s.legs t.rests; charge = t.charge + n * s.rate }

-- a spread in both directions, with A long first
unfoldable pub spread_both_ways : TierRests → Intra → TierRests
spread_both_ways t s = spread_one_way s AShort (spread_one_way s ALong t)

-- the spreads formed in both directions, in 10^-4 spreads: with A long first, and with A short on what is left
abbrev pub formed_both : TierRests → Intra → SpreadsFormed
formed_both t s = record { a_long = formed_in s ALong t; a_short = formed_in s AShort (spread_one_way s ALong t) }

-- before any spread, each month's remaining delta is its month delta
abbrev pub unspread : List MonthUnits → TierRests
unspread months = record { rests = months; charge = 0 }

-- after the spreads of a commodity, in their order
unfoldable pub after_spreads : List Intra → List MonthUnits → TierRests
after_spreads spreads months = fold spread_both_ways (unspread months) spreads
