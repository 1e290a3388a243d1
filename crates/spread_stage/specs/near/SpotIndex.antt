-- Spot months by slots of months.
use Rattle.std.specs.Prelude.{◌≡◌, ℕ, ◌+◌, ◌*◌, ◌/◌, ◌%◌, ◌<◌, List, length, slice_index_or}
use Rattle.std.specs.Int.{bit_at}
use Rattle.span_money.specs.declared.bits.TheConstants.{BITS}
use Rattle.span_tables.specs.declared.records.Spot.{Spot}
use Rattle.spread_stage.specs.declared.spot_index.SpotIndex.{SpotIndex}

-- the number of a month (yyyymm), counted from year 0
abbrev pub month_number : ℕ → ℕ
month_number month = month / 100 * 12 + month % 100

-- the slot of a month
abbrev pub month_slot : ℕ → ℕ
month_slot month = month_number month % BITS

-- the index has the spot month with a number
abbrev pub HasSpot : SpotIndex → ℕ → ℕ → Type 0
HasSpot index number month = bit_at (slice_index_or index.slots (month_slot month) 0) number ≡ 1

-- the index has each of the spot months
abbrev pub AreSpots : SpotIndex → List Spot → Type 0
AreSpots index spots = (k : ℕ) (s : Spot) → k < length spots → HasSpot index k (slice_index_or spots k s).month
