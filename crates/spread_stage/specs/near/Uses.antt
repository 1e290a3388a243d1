-- How months gather their units, and how their units are used in order.
use Rattle.std.specs.Prelude.{◌≡◌, ℕ, ◌<◌, ◌≤◌, ◌⊎◌, ◌==◌, nat_lt, false, if◌then◌else◌, List, [], ◌∷◌, length, slice_index_or, ℤ, ◌+ℤ◌}
use Rattle.span_tables.specs.declared.legs.MonthLeg.{MonthLeg}
use Rattle.spread_stage.specs.Spreads.{is_in_tier}
use Rattle.spread_stage.specs.declared.months.MonthUnits.{MonthUnits}
use Rattle.spread_stage.specs.declared.tiers.Span.{Span}

-- the months with units added to one month, which is inserted in order if it is missing
abbrev pub with_units : ℕ → ℤ → List MonthUnits → List MonthUnits
with_units p units [] = record { month = p; units = units } ∷ []
with_units p units (m ∷ ms) =
    if nat_lt p m.month then record { month = p; units = units } ∷ m ∷ ms
    else if p == m.month then record { month = m.month; units = m.units +ℤ units } ∷ ms
    else m ∷ with_units p units ms

-- the months with units added to the last month, or appended as a new month if the last month is another one
abbrev pub with_units_last : ℕ → ℤ → List MonthUnits → List MonthUnits
with_units_last p units [] = record { month = p; units = units } ∷ []
with_units_last p units (m ∷ []) =
    if p == m.month then record { month = m.month; units = m.units +ℤ units } ∷ [] else m ∷ record { month = p; units = units } ∷ []
with_units_last p units (m ∷ n ∷ ms) = m ∷ with_units_last p units (n ∷ ms)

-- the months of a list, strictly ascending, each with the sum of its units in the list
abbrev pub gathered : List MonthUnits → List MonthUnits
gathered [] = []
gathered (m ∷ ms) = with_units m.month m.units (gathered ms)

-- all months in front of a place are below a month
abbrev pub IsBehind : List MonthUnits → ℕ → ℕ → Type 0
IsBehind months place month = (k : ℕ) (m : MonthUnits) → k < place → (slice_index_or months k m).month < month

-- the place of the first month that is not below a month
pub record IsFirst (months : List MonthUnits) (place month : ℕ) : Type 0 where
  pub within : place ≤ length months
  pub behind : IsBehind months place month
  pub here : (m : MonthUnits) → place < length months → month ≤ (slice_index_or months place m).month

-- all months of the leg's tier are in the span
pub record IsSpan (months : List MonthUnits) (leg : MonthLeg) (span : Span) : Type 0 where
  pub up : span.first ≤ span.end
  pub within : span.end ≤ length months
  pub outside : (k : ℕ) (m : MonthUnits) → k < length months → (k < span.first) ⊎ (span.end ≤ k)
      → is_in_tier leg (slice_index_or months k m) ≡ false
