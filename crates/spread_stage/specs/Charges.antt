-- The intracommodity charge and the delivery charge.
use Rattle.std.specs.Prelude.{ℕ, ◌+◌, ◌-◌, ◌*◌, ◌^◌, List, sum_by, nat_abs}
use Rattle.std.specs.Int.{div_ceil}
use Rattle.spread_stage.specs.Deltas.{units_at}
use Rattle.spread_stage.specs.declared.months.MonthUnits.{MonthUnits}
use Rattle.span_tables.specs.declared.records.Spot.{Spot}

-- the intracommodity charge: the exact sum of spreads times rate, divided by 10^4 and rounded up
unfoldable pub intra_charge : ℕ → ℕ
intra_charge exact = div_ceil exact (10 ^ 4)

-- what is left of a month's delta after all spreads, in units of 10^-8
abbrev pub left_of : List MonthUnits → ℕ → ℕ
left_of rests p = nat_abs (units_at rests p)

-- what the spreads used of a month's delta, in units of 10^-8
abbrev pub used_of : List MonthUnits → List MonthUnits → ℕ → ℕ
used_of deltas rests p = nat_abs (units_at deltas p) - left_of rests p

-- the charge of a spot month, in 10^-8 minor units
abbrev pub spot_charge : List MonthUnits → List MonthUnits → Spot → ℕ
spot_charge deltas rests s = used_of deltas rests s.month * s.spread_rate + left_of rests s.month * s.outright_rate

-- the delivery charge: the exact sum over the spot months, divided by 10^8 and rounded up
unfoldable pub delivery_charge : List MonthUnits → List MonthUnits → List Spot → ℕ
delivery_charge deltas rests spots = div_ceil (sum_by (spot_charge deltas rests) spots) (10 ^ 8)
