-- Adding units at the end of a list, and gathering a list's units by month.
use Rattle.std.proofs.Common.{◌≡◌, ℕ, zero, suc, ◌+◌, ◌<◌, ◌≤◌, Bool, true, false, cond, List, [], ◌∷◌}
use Rattle.std.proofs.Common.{◌++◌, refl, sym, ap, ◌∙◌, arith, length, set, get_or, nat_abs}
use Rattle.std.specs.Prelude.{ℤ, ◌+ℤ◌, ◌==◌, nat_le}
use Rattle.std.specs.List.{AllByRecursion}
use Rattle.std.proofs.lemmas.Int.{ints}
use Rattle.std.proofs.lemmas.Bool.Decides.{nat_tests}
use Rattle.std.proofs.lemmas.List.Sums.{sum_by-cons}
use Rattle.span_tables.specs.Tables.{placed_by, rising_by}
use Rattle.spread_stage.specs.Months.{MonthsRise, total_size}
use Rattle.spread_stage.specs.near.Uses.{gathered, with_units, with_units_last}
use Rattle.spread_stage.specs.declared.months.MonthUnits.{MonthUnits}
use Rattle.spread_stage.proofs.ForwardLemmas.{before, either_first, here, of_month}

-- ---- the end of a list

-- the units belong to the last month
pub set_last : (p : ℕ) (u : ℤ) (ms : List MonthUnits) (i : ℕ) (d v : MonthUnits) → i + 1 ≡ length ms
    → p ≡ (get_or ms i d).month
    → v ≡ of_month (get_or ms i d).month ((get_or ms i d).units +ℤ u) → set ms i v ≡ with_units_last p u ms
set_last p u [] i d v at same now = absurd (omega (arith, at))
set_last p u (m ∷ []) zero d v at same now =
    let yes : (p == m.month) ≡ true = grind (arith, nat_tests, same) in
    ap (λ (x : MonthUnits). x ∷ []) now
    ∙ sym (ap (λ b. cond b (of_month m.month (m.units +ℤ u) ∷ []) (m ∷ of_month p u ∷ [])) yes)
set_last p u (m ∷ []) (suc i) d v at same now = absurd (omega (arith, at))
set_last p u (m ∷ n ∷ ms) zero d v at same now = absurd (omega (arith, at))
set_last p u (m ∷ n ∷ ms) (suc i) d v at same now =
    ap (λ (xs : List MonthUnits). m ∷ xs) (set_last p u (n ∷ ms) i d v (omega (arith, at)) same now)

-- the units belong to another month than the last
pub push_last : (p : ℕ) (u : ℤ) (ms : List MonthUnits)
    → ((i : ℕ) (d : MonthUnits) → i + 1 ≡ length ms → p ≡ (get_or ms i d).month → ⊥)
    → ms ++ of_month p u ∷ [] ≡ with_units_last p u ms
push_last p u [] other = refl
push_last p u (m ∷ []) other =
    let no : (p == m.month) ≡ false = not_same (p == m.month) refl in
    sym (ap (λ b. cond b (of_month m.month (m.units +ℤ u) ∷ []) (m ∷ of_month p u ∷ [])) no)
  where
    not_same : (b : Bool) → (p == m.month) ≡ b → b ≡ false
    not_same true e = absurd (other 0 m refl (grind (arith, nat_tests, e)))
    not_same false e = refl
push_last p u (m ∷ n ∷ ms) other =
    ap (λ (xs : List MonthUnits). m ∷ xs) (push_last p u (n ∷ ms) (λ i d at. other (suc i) d (omega (arith, at))))

-- ---- gathered months

-- adding units at the end adds them to the gathered months
pub gathered-last : (p : ℕ) (u : ℤ) (ms : List MonthUnits) → gathered (with_units_last p u ms) ≡ with_units p u (gathered ms)
gathered-last p u [] = refl
gathered-last p u (m ∷ []) = last_if (p == m.month) refl where
  last_if : (b : Bool) → (p == m.month) ≡ b
      → gathered (cond b (of_month m.month (m.units +ℤ u) ∷ []) (m ∷ of_month p u ∷ [])) ≡ with_units p u (gathered (m ∷ []))
  last_if true e =
      let same : p ≡ m.month = grind (arith, nat_tests, e) in sym (here p u m [] same)
  last_if false e = either_first m.month p m.units u []
gathered-last p u (m ∷ n ∷ ms) =
    ap (with_units m.month m.units) (gathered-last p u (n ∷ ms)) ∙ either_first m.month p m.units u (gathered (n ∷ ms))

-- appending a month adds its units to the gathered months
pub gathered-push : (ms : List MonthUnits) (m : MonthUnits) → gathered (ms ++ m ∷ []) ≡ with_units m.month m.units (gathered ms)
gathered-push [] m = refl
gathered-push (x ∷ ms) m =
    ap (with_units x.month x.units) (gathered-push ms m) ∙ either_first x.month m.month x.units m.units (gathered ms)

-- gathering does not change months that are strictly ascending
pub gathered-rise : (ms : List MonthUnits) → MonthsRise ms → gathered ms ≡ ms
gathered-rise [] up = refl
gathered-rise (m ∷ []) up = refl
gathered-rise (m ∷ n ∷ ms) up =
    ap (with_units m.month m.units) (gathered-rise (n ∷ ms) up.1) ∙ before m.month m.units n ms (up.0).0

-- sorting by any key does not change the gathered months
module _ (key : MonthUnits → ℕ) where
  placed_if : (b : Bool) (x y : MonthUnits) (ys more : List MonthUnits) → gathered more ≡ with_units x.month x.units (gathered ys)
      → gathered (cond b (x ∷ y ∷ ys) (y ∷ more)) ≡ with_units x.month x.units (gathered (y ∷ ys))
  placed_if true x y ys more rest = refl
  placed_if false x y ys more rest =
      ap (with_units y.month y.units) rest ∙ either_first y.month x.month y.units x.units (gathered ys)

  placed : (x : MonthUnits) (ys : List MonthUnits) → gathered (placed_by key x ys) ≡ with_units x.month x.units (gathered ys)
  placed x [] = refl
  placed x (y ∷ ys) = placed_if (nat_le (key x) (key y)) x y ys (placed_by key x ys) (placed x ys)

  pub gathered-sorted : (ms : List MonthUnits) → gathered (rising_by key ms) ≡ gathered ms
  gathered-sorted [] = refl
  gathered-sorted (m ∷ ms) = placed m (rising_by key ms) ∙ ap (with_units m.month m.units) (gathered-sorted ms)

-- ---- sizes

-- adding units at the end increases the total size by at most their size
pub size-last : (p : ℕ) (u : ℤ) (ms : List MonthUnits) → total_size (with_units_last p u ms) ≤ total_size ms + nat_abs u
size-last p u [] = omega arith
size-last p u (m ∷ []) = size_if (p == m.month) where
  size_if : (b : Bool)
      → total_size (cond b (of_month m.month (m.units +ℤ u) ∷ []) (m ∷ of_month p u ∷ [])) ≤ total_size (m ∷ []) + nat_abs u
  size_if true = omega (arith, ints)
  size_if false = omega arith
size-last p u (m ∷ n ∷ ms) =
    let a = sum_by-cons (λ (x : MonthUnits). nat_abs x.units) m (n ∷ ms) in
    let b = sum_by-cons (λ (x : MonthUnits). nat_abs x.units) m (with_units_last p u (n ∷ ms)) in
    let less = size-last p u (n ∷ ms) in omega (arith, a, b, less)

-- ---- order

-- no month of the list is later than p
abbrev pub NoneLater : ℕ → List MonthUnits → Type 0
NoneLater p ms = AllByRecursion (λ m. m.month ≤ p) ms

-- if no month is later than p, none is later than a later month q
pub none_later_than : (p q : ℕ) (ms : List MonthUnits) → p ≤ q → NoneLater p ms → NoneLater q ms
none_later_than p q [] le h = tt
none_later_than p q (m ∷ ms) le h = let one : m.month ≤ p = h.0 in (omega (arith, one, le), none_later_than p q ms le h.1)

module _ (p : ℕ) (u : ℤ) where
  -- months that are all later than q still are after the addition
  behind_still : (q : ℕ) (ms : List MonthUnits) → q < p → AllByRecursion (λ m. q < m.month) ms
      → AllByRecursion (λ m. q < m.month) (with_units_last p u ms)
  behind_still q [] lt h = (lt, tt)
  behind_still q (m ∷ []) lt h = still (p == m.month) where
    still : (b : Bool) → AllByRecursion (λ (x : MonthUnits). q < x.month)
        (cond b (of_month m.month (m.units +ℤ u) ∷ []) (m ∷ of_month p u ∷ []))
    still true = (h.0, tt)
    still false = (h.0, (lt, tt))
  behind_still q (m ∷ n ∷ ms) lt h = (h.0, behind_still q (n ∷ ms) lt h.1)

  -- if no month is later than p, none is after the addition
  pub none_later_after : (ms : List MonthUnits) → NoneLater p ms → NoneLater p (with_units_last p u ms)
  none_later_after [] h = (omega arith, tt)
  none_later_after (m ∷ []) h = still (p == m.month) where
    still : (b : Bool) → NoneLater p (cond b (of_month m.month (m.units +ℤ u) ∷ []) (m ∷ of_month p u ∷ []))
    still true = (h.0, tt)
    still false = (h.0, (omega arith, tt))
  none_later_after (m ∷ n ∷ ms) h = (h.0, none_later_after (n ∷ ms) h.1)

  -- strictly ascending months still are after units are added at the end
  pub rise_after : (ms : List MonthUnits) → MonthsRise ms → NoneLater p ms → MonthsRise (with_units_last p u ms)
  rise_after [] up h = (tt, tt)
  rise_after (m ∷ []) up h = still (p == m.month) refl where
    still : (b : Bool) → (p == m.month) ≡ b
        → MonthsRise (cond b (of_month m.month (m.units +ℤ u) ∷ []) (m ∷ of_month p u ∷ []))
    still true e = (tt, tt)
    still false e =
        let le : m.month ≤ p = h.0 in let lt : m.month < p = grind (arith, nat_tests, e, le) in ((lt, tt), (tt, tt))
  rise_after (m ∷ n ∷ ms) up h =
      let first : m.month < n.month = (up.0).0 in
      let le : n.month ≤ p = (h.1).0 in
      (behind_still m.month (n ∷ ms) (omega (arith, first, le)) up.0, rise_after (n ∷ ms) up.1 h.1)
