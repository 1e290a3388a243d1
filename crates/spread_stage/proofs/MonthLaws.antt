-- The held months are strictly ascending, and their deltas add up to the net delta.
use Rattle.std.proofs.Common.{◌≡◌, ℕ, ◌<◌, Bool, true, false, cond, List, [], ◌∷◌, refl, sym, ap, ◌∙◌, arith, subst, filter, map, inl, inr}
use Rattle.std.specs.Prelude.{ℤ, pos, ◌+ℤ◌, ◌==◌, nat_lt, ◌⊎◌}
use Rattle.std.specs.List.{AllByRecursion}
use Rattle.std.proofs.lemmas.Int.{ints}
use Rattle.std.proofs.lemmas.Bool.Decides.{nat_tests}
use Rattle.span_money.specs.Numbers.{int_sum_by}
use Rattle.spread_stage.specs.Deltas.{units_of, with_month, months_of, month_delta, month_deltas, net_delta}
use Rattle.spread_stage.specs.Months.{MonthsRise}
use Rattle.span_tables.specs.Net.{HeldContract}
use Rattle.spread_stage.specs.declared.months.MonthUnits.{MonthUnits}
use Rattle.span_tables.proofs.SumLaws.{int_sum_by-cons, int_sum_by-if}

-- the numbers are strictly ascending
abbrev pub Rise : List ℕ → Type 0
Rise [] = Unit {0}
Rise (p ∷ ps) = AllByRecursion (λ q. p < q) ps × Rise ps

pub all_above : (p q : ℕ) (qs : List ℕ) → p < q → AllByRecursion (λ r. q < r) qs → AllByRecursion (λ r. p < r) qs
all_above p q [] lt h = tt
all_above p q (r ∷ rs) lt h = (let qr : q < r = h.0 in omega arith, all_above p q rs lt h.1)

above_if : (b : Bool) (m p q : ℕ) (qs more : List ℕ) → m < p → m < q → AllByRecursion (λ r. m < r) qs
    → AllByRecursion (λ r. m < r) more
    → AllByRecursion (λ r. m < r) (cond b (p ∷ q ∷ qs) (cond (p == q) (q ∷ qs) (q ∷ more)))
above_if true m p q qs more mp mq h k = (mp, (mq, h))
above_if false m p q qs more mp mq h k = pick (p == q) where
  pick : (b : Bool) → AllByRecursion (λ r. m < r) (cond b (q ∷ qs) (q ∷ more))
  pick true = (mq, h)
  pick false = (mq, k)

with_month_above : (m p : ℕ) (qs : List ℕ) → m < p → AllByRecursion (λ r. m < r) qs
    → AllByRecursion (λ r. m < r) (with_month p qs)
with_month_above m p [] lt h = (lt, tt)
with_month_above m p (q ∷ qs) lt h = above_if (nat_lt p q) m p q qs (with_month p qs) lt h.0 h.1 (with_month_above m p qs lt h.1)

rise_if : (b c : Bool) (p q : ℕ) (qs : List ℕ) → nat_lt p q ≡ b → (p == q) ≡ c → Rise (q ∷ qs) → Rise (with_month p qs)
    → Rise (cond b (p ∷ q ∷ qs) (cond c (q ∷ qs) (q ∷ with_month p qs)))
rise_if true c p q qs e f h k = let lt : p < q = grind (arith, nat_tests, e) in ((lt, all_above p q qs lt h.0), h)
rise_if false true p q qs e f h k = h
rise_if false false p q qs e f h k = let lt : q < p = grind (arith, nat_tests, e, f) in (with_month_above q p qs lt h.0, k)

with_month_rises : (p : ℕ) (qs : List ℕ) → Rise qs → Rise (with_month p qs)
with_month_rises p [] h = (tt, tt)
with_month_rises p (q ∷ qs) h = rise_if (nat_lt p q) (p == q) p q qs refl refl h (with_month_rises p qs h.1)

pub months_rise_up : (held : List HeldContract) → Rise (months_of held)
months_rise_up [] = tt
months_rise_up (h ∷ hs) = with_month_rises (h.contract).month (months_of hs) (months_rise_up hs)

with_units : List HeldContract → ℕ → MonthUnits
with_units held p = record { month = p; units = month_delta held p }

above_map : (held : List HeldContract) (m : ℕ) (ps : List ℕ) → AllByRecursion (λ p. m < p) ps
    → AllByRecursion (λ (n : MonthUnits). m < n.month) (map (with_units held) ps)
unfolding with_units
above_map held m [] h = tt
above_map held m (p ∷ ps) h = (h.0, above_map held m ps h.1)

rise_map : (held : List HeldContract) (ps : List ℕ) → Rise ps → MonthsRise (map (with_units held) ps)
unfolding with_units
rise_map held [] h = tt
rise_map held (p ∷ ps) h = (above_map held p ps h.0, rise_map held ps h.1)

-- the held months are strictly ascending
pub month_deltas_rise : (held : List HeldContract) → MonthsRise (month_deltas held)
unfolding month_deltas with_units
month_deltas_rise held = rise_map held (months_of held) (months_rise_up held)

-- ---- the net delta

-- p is an element of the list
abbrev pub Has : ℕ → List ℕ → Type 0
Has p [] = ⊥
Has p (q ∷ qs) = (p ≡ q) ⊎ Has p qs

has_if : (b c : Bool) (r p q : ℕ) (qs more : List ℕ) → (p == q) ≡ c → (r ≡ p) ⊎ Has r (q ∷ qs)
    → (Has r qs → Has r more) → (r ≡ p → Has r more)
    → Has r (cond b (p ∷ q ∷ qs) (cond c (q ∷ qs) (q ∷ more)))
has_if true c r p q qs more f h keep new = h
has_if false true r p q qs more f (inl e) keep new = let same : p ≡ q = grind (arith, nat_tests, f) in inl (e ∙ same)
has_if false true r p q qs more f (inr h) keep new = h
has_if false false r p q qs more f (inl e) keep new = inr (new e)
has_if false false r p q qs more f (inr (inl e)) keep new = inl e
has_if false false r p q qs more f (inr (inr h)) keep new = inr (keep h)

with_month_has : (r p : ℕ) (qs : List ℕ) → (r ≡ p) ⊎ Has r qs → Has r (with_month p qs)
with_month_has r p [] h = h
with_month_has r p (q ∷ qs) h =
    has_if (nat_lt p q) (p == q) r p q qs (with_month p qs) refl h (λ k. with_month_has r p qs (inr k))
    (λ e. with_month_has r p qs (inl e))

all_had : (p : ℕ) (ps : List ℕ) (hs : List HeldContract) → AllByRecursion (λ h. Has (h.contract).month ps) hs
    → AllByRecursion (λ h. Has (h.contract).month (with_month p ps)) hs
all_had p ps [] a = tt
all_had p ps (h ∷ hs) a = (with_month_has (h.contract).month p ps (inr a.0), all_had p ps hs a.1)

pub months_have : (held : List HeldContract) → AllByRecursion (λ h. Has (h.contract).month (months_of held)) held
months_have [] = tt
months_have (h ∷ hs) = (
  with_month_has (h.contract).month (h.contract).month (months_of hs) (inl refl),
  all_had (h.contract).month (months_of hs) hs (months_have hs),
)

not_there : (p : ℕ) (u : ℤ) (qs : List ℕ) → AllByRecursion (λ q. p < q) qs
    → int_sum_by (λ q. cond (p == q) u (pos 0)) qs ≡ pos 0
not_there p u [] h = refl
not_there p u (q ∷ qs) h =
    let lt : p < q = h.0 in
    let no : (p == q) ≡ false = grind (arith, nat_tests, lt) in
    let here : cond (p == q) u (pos 0) ≡ pos 0 = ap (λ b. cond b u (pos 0)) no in
    let rest = not_there p u qs h.1 in
    let split = int_sum_by-cons (λ r. cond (p == r) u (pos 0)) q qs in
    omega (arith, ints, here, rest, split)

pub later_than : (p q : ℕ) (qs : List ℕ) → AllByRecursion (λ r. q < r) qs → Has p qs → q < p
later_than p q [] h k = absurd k
later_than p q (r ∷ rs) h (inl e) = subst (λ x. q < x) (sym e) h.0
later_than p q (r ∷ rs) h (inr k) = later_than p q rs h.1 k

there_once : (p : ℕ) (u : ℤ) (qs : List ℕ) → Rise qs → Has p qs → int_sum_by (λ q. cond (p == q) u (pos 0)) qs ≡ u
there_once p u [] h k = absurd k
there_once p u (q ∷ qs) h (inl e) =
    let yes : (p == q) ≡ true = grind (arith, nat_tests, e) in
    let here : cond (p == q) u (pos 0) ≡ u = ap (λ b. cond b u (pos 0)) yes in
    let rest = not_there p u qs (subst (λ x. AllByRecursion (λ r. x < r) qs) (sym e) h.0) in
    let split = int_sum_by-cons (λ r. cond (p == r) u (pos 0)) q qs in
    omega (arith, ints, here, rest, split)
there_once p u (q ∷ qs) h (inr k) =
    let lt : q < p = later_than p q qs h.0 k in
    let no : (p == q) ≡ false = grind (arith, nat_tests, lt) in
    let here : cond (p == q) u (pos 0) ≡ pos 0 = ap (λ b. cond b u (pos 0)) no in
    let rest = there_once p u qs h.1 k in
    let split = int_sum_by-cons (λ r. cond (p == r) u (pos 0)) q qs in
    omega (arith, ints, here, rest, split)

-- the sum of month deltas with one more contract
sum_with : (h : HeldContract) (hs : List HeldContract) (ps : List ℕ)
    → int_sum_by (month_delta (h ∷ hs)) ps
    ≡ int_sum_by (λ p. cond ((h.contract).month == p) (units_of h) (pos 0)) ps +ℤ int_sum_by (month_delta hs) ps
sum_with h hs [] = refl
sum_with h hs (p ∷ ps) =
    let a = int_sum_by-cons (month_delta (h ∷ hs)) p ps in
    let b = int_sum_by-cons (λ q. cond ((h.contract).month == q) (units_of h) (pos 0)) p ps in
    let c = int_sum_by-cons (month_delta hs) p ps in
    let d : month_delta (h ∷ hs) p ≡ cond ((h.contract).month == p) (units_of h) (pos 0) +ℤ month_delta hs p =
    int_sum_by-if units_of ((h.contract).month == p) h (filter (λ x. (x.contract).month == p) hs) in
    let e = sum_with h hs ps in
    omega (arith, ints, a, b, c, d, e)

sum_none : (ps : List ℕ) → int_sum_by (month_delta []) ps ≡ pos 0
sum_none [] = refl
sum_none (p ∷ ps) = let a = int_sum_by-cons (month_delta []) p ps in let b = sum_none ps in omega (arith, ints, a, b)

sum_over : (ps : List ℕ) → Rise ps → (hs : List HeldContract) → AllByRecursion (λ h. Has (h.contract).month ps) hs
    → int_sum_by (month_delta hs) ps ≡ int_sum_by units_of hs
sum_over ps rise [] a = sum_none ps
sum_over ps rise (h ∷ hs) a =
    let one = there_once (h.contract).month (units_of h) ps rise a.0 in
    let more = sum_over ps rise hs a.1 in
    let b = sum_with h hs ps in
    let c = int_sum_by-cons units_of h hs in
    omega (arith, ints, one, more, b, c)

units_sum : (held : List HeldContract) (ps : List ℕ) → net_delta (map (with_units held) ps) ≡ int_sum_by (month_delta held) ps
unfolding with_units
units_sum held [] = refl
units_sum held (p ∷ ps) =
    let a = int_sum_by-cons (λ (m : MonthUnits). m.units) (with_units held p) (map (with_units held) ps) in
    let b = int_sum_by-cons (month_delta held) p ps in
    let c = units_sum held ps in
    omega (arith, ints, a, b, c)

-- the net delta is the sum of the deltas of all held contracts
pub net_delta_is : (held : List HeldContract) → net_delta (month_deltas held) ≡ int_sum_by units_of held
unfolding month_deltas with_units
net_delta_is held = units_sum held (months_of held) ∙ sum_over (months_of held) (months_rise_up held) held (months_have held)
