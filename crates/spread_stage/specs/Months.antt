-- Invariants of months and of the remaining deltas of tiers.
use Rattle.std.specs.Prelude.{◌≡◌, ℕ, ◌+◌, ◌*◌, ◌<◌, ◌≤◌, List, [], ◌∷◌, sum_by, ⊤, ℤ, pos, negsuc, nat_abs}
use Rattle.std.specs.List.{AllByRecursion}
use Rattle.span_tables.specs.declared.limits.TheConstants.{MAX_RATE, MAX_UNITS}
use Rattle.spread_stage.specs.Spreads.{TierRests}
use Rattle.spread_stage.specs.declared.months.MonthUnits.{MonthUnits}

-- the months are strictly ascending, so no month appears twice
abbrev pub MonthsRise : List MonthUnits → Type 0
MonthsRise [] = ⊤
MonthsRise (m ∷ ms) = AllByRecursion (λ n. m.month < n.month) ms × MonthsRise ms

-- the sum of the sizes of the months' units
abbrev pub total_size : List MonthUnits → ℕ
total_size months = sum_by (λ m. nat_abs m.units) months

-- months with their units: strictly ascending, with a bounded total size
pub record AreMonths (months : List MonthUnits) : Type 0 where
  pub rise : MonthsRise months
  pub small : total_size months ≤ MAX_UNITS

-- remaining deltas and charge: the months are strictly ascending, and the charge plus what can still be charged is
-- bounded
pub record AreTierRests (t : TierRests) : Type 0 where
  pub rise : MonthsRise t.rests
  pub small : t.charge + MAX_RATE * total_size t.rests ≤ MAX_RATE * MAX_UNITS

-- the second number is at most as large in size as the first and does not have the opposite sign
abbrev pub IsPartOf : ℤ → ℤ → Type 0
IsPartOf (pos n) (pos k) = k ≤ n
IsPartOf (pos n) (negsuc k) = ⊥
IsPartOf (negsuc n) (pos k) = k ≡ 0
IsPartOf (negsuc n) (negsuc k) = k ≤ n

-- the remaining deltas have the months of the deltas, in the same order, and each is a part of its month's delta
abbrev pub Shrinks : List MonthUnits → List MonthUnits → Type 0
Shrinks [] [] = ⊤
Shrinks [] (r ∷ rests) = ⊥
Shrinks (m ∷ deltas) [] = ⊥
Shrinks (m ∷ deltas) (r ∷ rests) = (r.month ≡ m.month) × (IsPartOf m.units r.units × Shrinks deltas rests)
