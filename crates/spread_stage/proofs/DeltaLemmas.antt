-- The month deltas, computed one held contract at a time.
use Rattle.std.proofs.Common.{◌≡◌, ℕ, ◌+◌, ◌<◌, ◌≤◌, Bool, true, false, cond, List, [], ◌∷◌, refl, sym, ap}
use Rattle.std.proofs.Common.{◌∙◌, subst, arith, filter, map, inl, inr, nat_abs, zero, suc, negsuc, ◌*◌, ◌*ℤ◌, ◌-ℤ◌}
use Rattle.std.proofs.Math.IntN.{*ℤ-zero, *ℤ_comm, pred_ℤ-*ℤ, suc_ℤ-*ℤ, zero-*ℤ}
use Rattle.span_money.proofs.WordLemmas.{product_size}
use Rattle.span_tables.specs.declared.limits.TheConstants.{MAX_DELTA, MAX_NET, MAX_SCALE}
use Rattle.std.specs.Prelude.{ℤ, pos, ◌+ℤ◌, ◌==◌, nat_lt, ◌⊎◌}
use Rattle.std.specs.List.{AllByRecursion}
use Rattle.std.proofs.lemmas.Int.{ints}
use Rattle.std.proofs.lemmas.Bool.Decides.{nat_tests}
use Rattle.std.proofs.lemmas.List.Sums.{sum_by-cons}
use Rattle.span_money.specs.Numbers.{int_sum_by}
use Rattle.spread_stage.specs.Deltas.{units_of, with_month, months_of, month_delta, month_deltas}
use Rattle.spread_stage.specs.Months.{total_size}
use Rattle.spread_stage.specs.near.Uses.{with_units}
use Rattle.span_tables.specs.Net.{HeldContract}
use Rattle.spread_stage.specs.declared.months.MonthUnits.{MonthUnits}
use Rattle.span_tables.proofs.SumLaws.{int_sum_by-if}
use Rattle.spread_stage.proofs.MonthLaws.{Rise, Has, months_rise_up, months_have, later_than, all_above}

-- a product with a sum
times_sum : (a y b : ℤ) → a *ℤ (y +ℤ b) ≡ a *ℤ y +ℤ a *ℤ b
times_sum (pos zero) y b = omega (arith, ints, zero-*ℤ (y +ℤ b), zero-*ℤ y, zero-*ℤ b)
times_sum (pos (suc n)) y b =
    let all : pos (suc n) *ℤ (y +ℤ b) ≡ pos n *ℤ (y +ℤ b) +ℤ (y +ℤ b) = suc_ℤ-*ℤ (pos n) (y +ℤ b) in
    let one : pos (suc n) *ℤ y ≡ pos n *ℤ y +ℤ y = suc_ℤ-*ℤ (pos n) y in
    let other : pos (suc n) *ℤ b ≡ pos n *ℤ b +ℤ b = suc_ℤ-*ℤ (pos n) b in
    omega (arith, ints, all, one, other, times_sum (pos n) y b)
times_sum (negsuc zero) y b =
    let all : negsuc zero *ℤ (y +ℤ b) ≡ pos zero *ℤ (y +ℤ b) -ℤ (y +ℤ b) = pred_ℤ-*ℤ (pos zero) (y +ℤ b) in
    let one : negsuc zero *ℤ y ≡ pos zero *ℤ y -ℤ y = pred_ℤ-*ℤ (pos zero) y in
    let other : negsuc zero *ℤ b ≡ pos zero *ℤ b -ℤ b = pred_ℤ-*ℤ (pos zero) b in
    omega (arith, ints, all, one, other, zero-*ℤ (y +ℤ b), zero-*ℤ y, zero-*ℤ b)
times_sum (negsuc (suc n)) y b =
    let all : negsuc (suc n) *ℤ (y +ℤ b) ≡ negsuc n *ℤ (y +ℤ b) -ℤ (y +ℤ b) = pred_ℤ-*ℤ (negsuc n) (y +ℤ b) in
    let one : negsuc (suc n) *ℤ y ≡ negsuc n *ℤ y -ℤ y = pred_ℤ-*ℤ (negsuc n) y in
    let other : negsuc (suc n) *ℤ b ≡ negsuc n *ℤ b -ℤ b = pred_ℤ-*ℤ (negsuc n) b in
    omega (arith, ints, all, one, other, times_sum (negsuc n) y b)

-- a net quantity times a delta that is already scaled
pub times_scaled : (net delta : ℤ) (scale : ℕ) → net *ℤ (delta *ℤ pos scale) ≡ (net *ℤ delta) *ℤ pos scale
times_scaled net delta zero = ap (λ z. net *ℤ z) (*ℤ-zero delta) ∙ *ℤ-zero net ∙ sym (*ℤ-zero (net *ℤ delta))
times_scaled net delta (suc scale) =
    let next : (z : ℤ) → z *ℤ pos (suc scale) ≡ z *ℤ pos scale +ℤ z =
    λ z. *ℤ_comm z (pos (suc scale)) ∙ suc_ℤ-*ℤ (pos scale) z ∙ ap (λ w. w +ℤ z) (*ℤ_comm (pos scale) z) in
    ap (λ z. net *ℤ z) (next delta) ∙ times_sum net (delta *ℤ pos scale) delta
    ∙ ap (λ z. z +ℤ net *ℤ delta) (times_scaled net delta scale)
    ∙ sym (next (net *ℤ delta))

-- the units of a net quantity are within their limit
pub units_small : (net units : ℤ) → nat_abs net ≤ MAX_NET → nat_abs units ≤ MAX_DELTA * MAX_SCALE
    → nat_abs (net *ℤ units) ≤ MAX_NET * MAX_DELTA * MAX_SCALE
units_small net units x y = let size = product_size net units MAX_NET (MAX_DELTA * MAX_SCALE) x y in omega (arith, size)

-- months, each with the units that a function returns for it
abbrev with_deltas : (ℕ → ℤ) → List ℕ → List MonthUnits
with_deltas f ps = map (λ p. record { month = p; units = f p }) ps

same_cons : (p : ℕ) (a b : ℤ) (xs ys : List MonthUnits) → a ≡ b → xs ≡ ys
    → record { month = p; units = a } ∷ xs ≡ record { month = p; units = b } ∷ ys
same_cons p a b xs ys e h =
    ap (λ (u : ℤ). record { month = p; units = u } ∷ xs) e ∙ ap (λ (ms : List MonthUnits). record { month = p; units = b } ∷ ms) h

-- two functions that agree on later months give the same list
same_above : (f g : ℕ → ℤ) (p : ℕ) (ps : List ℕ) → ((q : ℕ) → p < q → f q ≡ g q) → AllByRecursion (λ q. p < q) ps
    → with_deltas f ps ≡ with_deltas g ps
same_above f g p [] same h = refl
same_above f g p (q ∷ qs) same h =
    same_cons q (f q) (g q) (with_deltas f qs) (with_deltas g qs) (same q h.0) (same_above f g p qs same h.1)

module _ (f g : ℕ → ℤ) (p : ℕ) (u : ℤ) (at : g p ≡ f p +ℤ u) (other : (q : ℕ) → (p == q) ≡ false → f q ≡ g q) where
  later : (q : ℕ) → p < q → f q ≡ g q
  later q lt = let no : (p == q) ≡ false = grind (arith, nat_tests, lt) in other q no

  nothing : (q : ℕ) (qs : List ℕ) → p < q → AllByRecursion (λ r. q < r) qs → Has p (q ∷ qs) ⊎ (f p ≡ pos 0)
      → f p ≡ pos 0
  nothing q qs lt above (inr z) = z
  nothing q qs lt above (inl (inl e)) = absurd (omega (arith, lt, e))
  nothing q qs lt above (inl (inr k)) = let more = later_than p q qs above k in absurd (omega (arith, lt, more))

  fewer : (q : ℕ) (qs : List ℕ) → (p == q) ≡ false → Has p (q ∷ qs) ⊎ (f p ≡ pos 0) → Has p qs ⊎ (f p ≡ pos 0)
  fewer q qs d (inr z) = inr z
  fewer q qs d (inl (inl e)) = absurd (grind (arith, nat_tests, d, e))
  fewer q qs d (inl (inr k)) = inl k

  step_if : (b c : Bool) (q : ℕ) (qs : List ℕ) → nat_lt p q ≡ b → (p == q) ≡ c → Rise (q ∷ qs)
      → Has p (q ∷ qs) ⊎ (f p ≡ pos 0)
      → (Has p qs ⊎ (f p ≡ pos 0) → with_units p u (with_deltas f qs) ≡ with_deltas g (with_month p qs))
      → cond b (record { month = p; units = u } ∷ with_deltas f (q ∷ qs))
      (cond c (record { month = q; units = f q +ℤ u } ∷ with_deltas f qs)
      (record { month = q; units = f q } ∷ with_units p u (with_deltas f qs)))
      ≡ with_deltas g (cond b (p ∷ q ∷ qs) (cond c (q ∷ qs) (q ∷ with_month p qs)))
  step_if true c q qs e d rise h rest =
      let lt : p < q = grind (arith, nat_tests, e) in
      let none = nothing q qs lt rise.0 h in
      let here : u ≡ g p = omega (arith, ints, none, at) in
      same_cons p u (g p) (with_deltas f (q ∷ qs)) (with_deltas g (q ∷ qs)) here
      (same_above f g p (q ∷ qs) later (lt, all_above p q qs lt rise.0))
  step_if false true q qs e d rise h rest =
      let same : p ≡ q = grind (arith, nat_tests, d) in
      let here : f q +ℤ u ≡ g q = cc (same, at) in
      same_cons q (f q +ℤ u) (g q) (with_deltas f qs) (with_deltas g qs) here
      (same_above f g q qs (λ r lt. later r (omega (arith, same, lt))) rise.0)
  step_if false false q qs e d rise h rest =
      same_cons q (f q) (g q) (with_units p u (with_deltas f qs)) (with_deltas g (with_month p qs)) (other q d) (rest (fewer q qs d h))

  step : (ps : List ℕ) → Rise ps → Has p ps ⊎ (f p ≡ pos 0)
      → with_units p u (with_deltas f ps) ≡ with_deltas g (with_month p ps)
  step [] rise (inl k) = absurd k
  step [] rise (inr z) = let here : u ≡ g p = omega (arith, ints, z, at) in same_cons p u (g p) [] [] here refl
  step (q ∷ qs) rise h = step_if (nat_lt p q) (p == q) q qs refl refl rise h (step qs rise.1)

-- a month is in the list, or no contract has it and its delta is 0
absent : (p : ℕ) (ps : List ℕ) (hs : List HeldContract) → AllByRecursion (λ h. Has (h.contract).month ps) hs
    → Has p ps ⊎ (month_delta hs p ≡ pos 0)
absent p ps [] a = inr refl
absent p ps (h ∷ hs) a = pick ((h.contract).month == p) refl (absent p ps hs a.1) where
  pick : (b : Bool) → ((h.contract).month == p) ≡ b → Has p ps ⊎ (month_delta hs p ≡ pos 0)
      → Has p ps ⊎ (month_delta (h ∷ hs) p ≡ pos 0)
  pick true e rest = let same : (h.contract).month ≡ p = grind (arith, nat_tests, e) in inl (subst (λ q. Has q ps) same a.0)
  pick false e (inl k) = inl k
  pick false e (inr z) =
      inr (ap (λ b. int_sum_by units_of
      (cond b (h ∷ filter (λ x. (x.contract).month == p) hs) (filter (λ x. (x.contract).month == p) hs))) e ∙ z)

delta_at : (h : HeldContract) (hs : List HeldContract)
    → month_delta (h ∷ hs) (h.contract).month ≡ month_delta hs (h.contract).month +ℤ units_of h
delta_at h hs =
    let p = (h.contract).month in
    let yes : (p == p) ≡ true = grind (arith, nat_tests) in
    let all = int_sum_by-if units_of (p == p) h (filter (λ x. (x.contract).month == p) hs) in
    let here : cond (p == p) (units_of h) (pos 0) ≡ units_of h = ap (λ b. cond b (units_of h) (pos 0)) yes in
    omega (arith, ints, all, here)

delta_other : (h : HeldContract) (hs : List HeldContract) (q : ℕ) → ((h.contract).month == q) ≡ false
    → month_delta hs q ≡ month_delta (h ∷ hs) q
delta_other h hs q e =
    sym (ap (λ b. int_sum_by units_of
    (cond b (h ∷ filter (λ x. (x.contract).month == q) hs) (filter (λ x. (x.contract).month == q) hs))) e)

-- one more contract at the front adds its units to its month
pub month_deltas-cons : (h : HeldContract) (hs : List HeldContract)
    → with_units (h.contract).month (units_of h) (month_deltas hs) ≡ month_deltas (h ∷ hs)
unfolding month_deltas
month_deltas-cons h hs =
    step (month_delta hs) (month_delta (h ∷ hs)) (h.contract).month (units_of h) (delta_at h hs) (delta_other h hs) (months_of hs)
    (months_rise_up hs)
    (absent (h.contract).month (months_of hs) hs (months_have hs))

-- ---- sizes

size_if : (b c : Bool) (p : ℕ) (u : ℤ) (m : MonthUnits) (ms more : List MonthUnits) → total_size more ≤ total_size ms + nat_abs u
    → total_size (cond b (record { month = p; units = u } ∷ m ∷ ms)
    (cond c (record { month = m.month; units = m.units +ℤ u } ∷ ms) (m ∷ more))) ≤ total_size (m ∷ ms) + nat_abs u
size_if true c p u m ms more h =
    let a = sum_by-cons (λ (x : MonthUnits). nat_abs x.units) (record { month = p; units = u }) (m ∷ ms) in omega (arith, a)
size_if false true p u m ms more h =
    let a = sum_by-cons (λ (x : MonthUnits). nat_abs x.units) (record { month = m.month; units = m.units +ℤ u }) ms in
    let b = sum_by-cons (λ (x : MonthUnits). nat_abs x.units) m ms in
    let d : nat_abs (m.units +ℤ u) ≤ nat_abs m.units + nat_abs u = omega (arith, ints) in omega (arith, a, b, d)
size_if false false p u m ms more h =
    let a = sum_by-cons (λ (x : MonthUnits). nat_abs x.units) m ms in
    let b = sum_by-cons (λ (x : MonthUnits). nat_abs x.units) m more in omega (arith, a, b, h)

-- adding units increases the total size by at most their size
pub size-with_units : (p : ℕ) (u : ℤ) (ms : List MonthUnits) → total_size (with_units p u ms) ≤ total_size ms + nat_abs u
size-with_units p u [] = omega arith
size-with_units p u (m ∷ ms) = size_if (nat_lt p m.month) (p == m.month) p u m ms (with_units p u ms) (size-with_units p u ms)
