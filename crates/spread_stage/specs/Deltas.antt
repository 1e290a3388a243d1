-- Month deltas.
use Rattle.std.specs.Prelude.{ℕ, ◌==◌, nat_lt, if◌then◌else◌, List, [], ◌∷◌, map, filter, find, unwrap_or, option_map, ℤ, pos, ◌*ℤ◌}
use Rattle.span_money.specs.Numbers.{int_sum_by}
use Rattle.span_tables.specs.Net.{HeldContract}
use Rattle.spread_stage.specs.declared.months.MonthUnits.{MonthUnits}

-- the delta of a held contract, in units of 10^-8
abbrev pub units_of : HeldContract → ℤ
units_of h = (h.net *ℤ (h.contract).delta) *ℤ pos (h.contract).scale

-- the months with one more, strictly ascending
abbrev pub with_month : ℕ → List ℕ → List ℕ
with_month p [] = p ∷ []
with_month p (q ∷ qs) = if nat_lt p q then p ∷ q ∷ qs else if p == q then q ∷ qs else q ∷ with_month p qs

-- the months of held contracts, strictly ascending
abbrev pub months_of : List HeldContract → List ℕ
months_of [] = []
months_of (h ∷ hs) = with_month (h.contract).month (months_of hs)

-- the delta of a month: the sum over its contracts
abbrev pub month_delta : List HeldContract → ℕ → ℤ
month_delta held p = int_sum_by units_of (filter (λ h. (h.contract).month == p) held)

-- the held months with their deltas
unfoldable pub month_deltas : List HeldContract → List MonthUnits
month_deltas held = map (λ p. record { month = p; units = month_delta held p }) (months_of held)

-- the net delta: the sum over the months
abbrev pub net_delta : List MonthUnits → ℤ
net_delta months = int_sum_by (λ m. m.units) months

-- the units of a month, or 0 if the month is not held
abbrev pub units_at : List MonthUnits → ℕ → ℤ
units_at months p = unwrap_or (option_map (λ m. m.units) (find (λ m. m.month == p) months)) (pos 0)
