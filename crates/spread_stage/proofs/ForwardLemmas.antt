-- The order in which units are added does not change the months, so months may be gathered from the first held contract
-- on.
use Rattle.std.proofs.Common.{◌≡◌, ℕ, ◌<◌, Bool, true, false, cond, List, [], ◌∷◌, ◌++◌, refl, sym, ap, ◌∙◌, subst, arith, inl, inr}
use Rattle.std.specs.Prelude.{ℤ, ◌+ℤ◌, ◌==◌, nat_lt}
use Rattle.std.proofs.lemmas.Int.{ints}
use Rattle.std.proofs.lemmas.Bool.{cases_order}
use Rattle.std.proofs.lemmas.Bool.Decides.{nat_tests}
use Rattle.spread_stage.specs.Deltas.{units_of, month_deltas}
use Rattle.spread_stage.specs.near.Uses.{with_units}
use Rattle.span_tables.specs.Net.{HeldContract}
use Rattle.spread_stage.specs.declared.months.MonthUnits.{MonthUnits}
use Rattle.spread_stage.proofs.DeltaLemmas.{month_deltas-cons}

module _ (p : ℕ) (u : ℤ) where
  -- units are added after the first month, to the first month, or before it
  earlier_if : (b c : Bool) (m : MonthUnits) (ms more : List MonthUnits) → nat_lt p m.month ≡ b → (p == m.month) ≡ c → m.month < p
      → cond b (record { month = p; units = u } ∷ m ∷ ms)
      (cond c (record { month = m.month; units = m.units +ℤ u } ∷ ms) (m ∷ more)) ≡ m ∷ more
  earlier_if true c m ms more e d lt = absurd (grind (arith, nat_tests, e, lt))
  earlier_if false true m ms more e d lt = absurd (grind (arith, nat_tests, d, lt))
  earlier_if false false m ms more e d lt = refl

  same_if : (b c : Bool) (m : MonthUnits) (ms more : List MonthUnits) → nat_lt p m.month ≡ b → (p == m.month) ≡ c → m.month ≡ p
      → cond b (record { month = p; units = u } ∷ m ∷ ms)
      (cond c (record { month = m.month; units = m.units +ℤ u } ∷ ms) (m ∷ more))
      ≡ record { month = m.month; units = m.units +ℤ u } ∷ ms
  same_if true c m ms more e d same = absurd (grind (arith, nat_tests, e, same))
  same_if false true m ms more e d same = refl
  same_if false false m ms more e d same = absurd (grind (arith, nat_tests, d, same))

  later_if : (b c : Bool) (m : MonthUnits) (ms more : List MonthUnits) → nat_lt p m.month ≡ b → p < m.month
      → cond b (record { month = p; units = u } ∷ m ∷ ms)
      (cond c (record { month = m.month; units = m.units +ℤ u } ∷ ms) (m ∷ more)) ≡ record { month = p; units = u } ∷ m ∷ ms
  later_if true c m ms more e lt = refl
  later_if false c m ms more e lt = absurd (grind (arith, nat_tests, e, lt))

-- a month with its units
abbrev pub of_month : ℕ → ℤ → MonthUnits
of_month p u = record { month = p; units = u }

module _ (p : ℕ) (u : ℤ) (m : MonthUnits) (ms : List MonthUnits) where
  -- the units belong to a month earlier than the first
  pub before : p < m.month → with_units p u (m ∷ ms) ≡ of_month p u ∷ m ∷ ms
  before lt = later_if p u (nat_lt p m.month) (p == m.month) m ms (with_units p u ms) refl lt

  -- the units belong to the first month
  pub here : p ≡ m.month → with_units p u (m ∷ ms) ≡ of_month m.month (m.units +ℤ u) ∷ ms
  here e = same_if p u (nat_lt p m.month) (p == m.month) m ms (with_units p u ms) refl refl (sym e)

  -- the units belong to a later month
  behind : m.month < p → with_units p u (m ∷ ms) ≡ m ∷ with_units p u ms
  behind lt = earlier_if p u (nat_lt p m.month) (p == m.month) m ms (with_units p u ms) refl refl lt

added : (a b c : ℤ) → (a +ℤ b) +ℤ c ≡ (a +ℤ c) +ℤ b
added a b c = omega (arith, ints)

-- both additions are to the same month
same_month : (p : ℕ) (u v : ℤ) (ms : List MonthUnits) → with_units p u (with_units p v ms) ≡ with_units p v (with_units p u ms)
same_month p u v [] =
    here p u (of_month p v) [] refl ∙ ap (λ (z : ℤ). of_month p z ∷ []) (omega (arith, ints))
    ∙ sym (here p v (of_month p u) [] refl)
same_month p u v (m ∷ ms) =
    elim (cases_order p m.month) [
      | inr (inl lt) ↦
          ap (with_units p u) (before p v m ms lt) ∙ here p u (of_month p v) (m ∷ ms) refl
          ∙ ap (λ (z : ℤ). of_month p z ∷ m ∷ ms) (omega (arith, ints))
          ∙ sym (ap (with_units p v) (before p u m ms lt) ∙ here p v (of_month p u) (m ∷ ms) refl)
      | inl e ↦
          ap (with_units p u) (here p v m ms e) ∙ here p u (of_month m.month (m.units +ℤ v)) ms e
          ∙ ap (λ (z : ℤ). of_month m.month z ∷ ms) (added m.units v u)
          ∙ sym (ap (with_units p v) (here p u m ms e) ∙ here p v (of_month m.month (m.units +ℤ u)) ms e)
      | inr (inr lt) ↦
          ap (with_units p u) (behind p v m ms lt) ∙ behind p u m (with_units p v ms) lt
          ∙ ap (λ (xs : List MonthUnits). m ∷ xs) (same_month p u v ms)
          ∙ sym (ap (with_units p v) (behind p u m ms lt) ∙ behind p v m (with_units p u ms) lt)
    ]

-- the additions are to a month and to a later one
later_month : (p q : ℕ) (u v : ℤ) (ms : List MonthUnits) → p < q
    → with_units p u (with_units q v ms) ≡ with_units q v (with_units p u ms)
later_month p q u v [] lt = before p u (of_month q v) [] lt ∙ sym (behind q v (of_month p u) [] lt)
later_month p q u v (m ∷ ms) lt =
    elim (cases_order q m.month) [
      | inr (inl lq) ↦
          let lp : p < m.month = omega (arith, lt, lq) in
          ap (with_units p u) (before q v m ms lq) ∙ before p u (of_month q v) (m ∷ ms) lt
          ∙ sym (ap (with_units q v) (before p u m ms lp) ∙ behind q v (of_month p u) (m ∷ ms) lt
          ∙ ap (λ (xs : List MonthUnits). of_month p u ∷ xs) (before q v m ms lq))
      | inl e ↦
          let lp : p < m.month = omega (arith, lt, e) in
          ap (with_units p u) (here q v m ms e) ∙ before p u (of_month m.month (m.units +ℤ v)) ms lp
          ∙ sym (ap (with_units q v) (before p u m ms lp) ∙ behind q v (of_month p u) (m ∷ ms) lt
          ∙ ap (λ (xs : List MonthUnits). of_month p u ∷ xs) (here q v m ms e))
      | inr (inr lq) ↦
          ap (with_units p u) (behind q v m ms lq)
          ∙ elim (cases_order p m.month) [
            | inr (inl lp) ↦
                before p u m (with_units q v ms) lp
                ∙ sym (ap (with_units q v) (before p u m ms lp) ∙ behind q v (of_month p u) (m ∷ ms) lt
                ∙ ap (λ (xs : List MonthUnits). of_month p u ∷ xs) (behind q v m ms lq))
            | inl e ↦
                here p u m (with_units q v ms) e
                ∙ sym (ap (with_units q v) (here p u m ms e) ∙ behind q v (of_month m.month (m.units +ℤ u)) ms lq)
            | inr (inr lp) ↦
                behind p u m (with_units q v ms) lp ∙ ap (λ (xs : List MonthUnits). m ∷ xs) (later_month p q u v ms lt)
                ∙ sym (ap (with_units q v) (behind p u m ms lp) ∙ behind q v m (with_units p u ms) lq)
          ]
    ]

-- the order of two additions does not matter
pub either_first : (p q : ℕ) (u v : ℤ) (ms : List MonthUnits)
    → with_units p u (with_units q v ms) ≡ with_units q v (with_units p u ms)
either_first p q u v ms =
    elim (cases_order p q) [
      | inr (inl lt) ↦ later_month p q u v ms lt
      | inl e ↦ subst (λ r. with_units p u (with_units r v ms) ≡ with_units r v (with_units p u ms)) e (same_month p u v ms)
      | inr (inr lt) ↦ sym (later_month q p v u ms lt)
    ]

-- one more contract at the end adds its units to its month
pub month_deltas-push : (hs : List HeldContract) (h : HeldContract)
    → with_units (h.contract).month (units_of h) (month_deltas hs) ≡ month_deltas (hs ++ h ∷ [])
month_deltas-push [] h = month_deltas-cons h []
month_deltas-push (x ∷ hs) h =
    ap (with_units (h.contract).month (units_of h)) (sym (month_deltas-cons x hs))
    ∙ either_first (h.contract).month (x.contract).month (units_of h) (units_of x) (month_deltas hs)
    ∙ ap (with_units (x.contract).month (units_of x)) (month_deltas-push hs h) ∙ month_deltas-cons x (hs ++ h ∷ [])
