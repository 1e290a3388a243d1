-- Remaining deltas next to their months: the one at a month's index is the one found by the month's number.
use Rattle.std.proofs.Common.{◌≡◌, ◌≢◌, ℕ, zero, suc, ◌-◌, ◌<◌, ◌≤◌, ◌⊎◌, inl, inr, Bool, true, false}
use Rattle.std.proofs.Common.{cond, List, [], ◌∷◌, length, get_or, nat_abs, refl, sym, ap, ◌∙◌, subst, arith}
use Rattle.std.specs.Prelude.{pos, ◌==◌, Option, Some, find, option_map, unwrap_or}
use Rattle.std.specs.List.{AllByRecursion}
use Rattle.std.proofs.lemmas.Bool.{cases_eq, cases_lt}
use Rattle.std.proofs.lemmas.Bool.Decides.{nat_tests}
use Rattle.std.proofs.lemmas.List.{get_or_default}
use Rattle.spread_stage.specs.Charges.{left_of}
use Rattle.spread_stage.specs.Deltas.{units_at}
use Rattle.spread_stage.specs.Months.{MonthsRise, Shrinks}
use Rattle.spread_stage.specs.near.Uses.{IsFirst}
use Rattle.spread_stage.specs.declared.months.MonthUnits.{MonthUnits}
use Rattle.spread_stage.proofs.SizeLemmas.{shrinks_none}

-- ---- lookup by number

found_if : (b : Bool) (r : MonthUnits) (f : Option MonthUnits) → b ≡ true
    → unwrap_or (option_map (λ (x : MonthUnits). x.units) (cond b (Some r) f)) (pos 0) ≡ r.units
found_if true r f e = refl
found_if false r f e = cc

passed_if : (b : Bool) (r : MonthUnits) (f : Option MonthUnits) → b ≡ false
    → unwrap_or (option_map (λ (x : MonthUnits). x.units) (cond b (Some r) f)) (pos 0)
    ≡ unwrap_or (option_map (λ (x : MonthUnits). x.units) f) (pos 0)
passed_if true r f e = cc
passed_if false r f e = refl

module _ (r : MonthUnits) (rests : List MonthUnits) (p : ℕ) where
  -- the first month is the one looked up
  found : r.month ≡ p → units_at (r ∷ rests) p ≡ r.units
  found e =
      let test : (r.month == p) ≡ true = grind (arith, nat_tests) in
      found_if (r.month == p) r (find (λ (x : MonthUnits). x.month == p) rests) test

  -- the first month is earlier
  passed : r.month < p → units_at (r ∷ rests) p ≡ units_at rests p
  passed lt =
      let test : (r.month == p) ≡ false = grind (arith, nat_tests) in
      passed_if (r.month == p) r (find (λ (x : MonthUnits). x.month == p) rests) test

-- ---- lookup by index

later : (p : ℕ) (ms : List MonthUnits) → AllByRecursion (λ n. p < n.month) ms → (k : ℕ) (m : MonthUnits) → k < length ms
    → m ≡ get_or ms k m → p < m.month
later p [] all k m lt at = absurd (omega (arith, lt))
later p (x ∷ ms) all zero m lt at = subst (λ (y : MonthUnits). p < y.month) (sym at) all.0
later p (x ∷ ms) all (suc k) m lt at = later p ms all.1 k m (omega (arith, lt)) at

-- the remaining delta at a month's index is that month's remaining delta, as a loop over both lists finds it
pub units_at-beside : (months rests : List MonthUnits) → MonthsRise months → Shrinks months rests
    → (k : ℕ) (m r : MonthUnits) → k < length months → m ≡ get_or months k m → r ≡ get_or rests k r
    → units_at rests m.month ≡ r.units
units_at-beside [] rests rise h k m r lt a b = absurd (omega (arith, lt))
units_at-beside (x ∷ ms) [] rise h k m r lt a b = absurd h
units_at-beside (x ∷ ms) (y ∷ rs) rise h zero m r lt a b =
    found y rs m.month (h.0 ∙ ap (λ (z : MonthUnits). z.month) (sym a)) ∙ ap (λ (z : MonthUnits). z.units) (sym b)
units_at-beside (x ∷ ms) (y ∷ rs) rise h (suc k) m r lt a b =
    let inside : k < length ms = omega (arith, lt) in
    let after : x.month < m.month = later x.month ms rise.0 k m inside a in
    let same : y.month ≡ x.month = h.0 in
    passed y rs m.month (omega (arith, after, same)) ∙ units_at-beside ms rs rise.1 (h.1).1 k m r inside a b

-- both lists have the same length
pub length-rests : (months rests : List MonthUnits) → Shrinks months rests → length rests ≡ length months
length-rests [] [] h = refl
length-rests [] (r ∷ rests) h = absurd h
length-rests (m ∷ months) [] h = absurd h
length-rests (m ∷ months) (r ∷ rests) h = ap suc (length-rests months rests (h.1).1)

-- ---- the place of a month

pub rises : (ms : List MonthUnits) → MonthsRise ms → (i j : ℕ) (x : MonthUnits) → i < j → j < length ms
    → (get_or ms i x).month < (get_or ms j x).month
rises [] rise i j x up lt = absurd (omega (arith, lt))
rises (m ∷ ms) rise zero zero x up lt = absurd (omega (arith, up))
rises (m ∷ ms) rise zero (suc j) x up lt =
    let inside : j < length ms = omega (arith, lt) in later m.month ms rise.0 j (get_or ms j x) inside (get_or_default ms j x _ inside)
rises (m ∷ ms) rise (suc i) zero x up lt = absurd (omega (arith, up))
rises (m ∷ ms) rise (suc i) (suc j) x up lt = rises ms rise.1 i j x (omega (arith, up)) (omega (arith, lt))

-- a month that is not among months has no units
pub no_units : (ms : List MonthUnits) (p : ℕ) → ((k : ℕ) (m : MonthUnits) → k < length ms → (get_or ms k m).month ≢ p)
    → units_at ms p ≡ pos 0
no_units [] p none = refl
no_units (m ∷ ms) p none =
    let other : m.month ≢ p = none 0 m (omega arith) in
    let test : (m.month == p) ≡ false = grind (arith, nat_tests, other) in
    passed_if (m.month == p) m (find (λ (x : MonthUnits). x.month == p) ms) test
    ∙ no_units ms p (λ k x lt. none (suc k) x (omega (arith, lt)))

-- a month that is not at the place of the first month that is not below it is not held
pub none_at : (ms : List MonthUnits) → MonthsRise ms → (first p : ℕ) → IsFirst ms first p
    → ((m : MonthUnits) → first < length ms → (get_or ms first m).month ≢ p) → units_at ms p ≡ pos 0
none_at ms rise first p is other = no_units ms p (λ k m lt. by k m lt (cases_lt k first))
  where
    by : (k : ℕ) (m : MonthUnits) → k < length ms → (k < first) ⊎ (first ≤ k) → (get_or ms k m).month ≢ p
    by k m lt (inl before) same = let below = is.behind k m before in omega (arith, below, same)
    by k m lt (inr after) same = up k m lt after same (cases_eq k first)
      where
        up : (k : ℕ) (m : MonthUnits) → k < length ms → first ≤ k → (get_or ms k m).month ≡ p → (k ≡ first) ⊎ (k ≢ first) → ⊥
        up k m lt after same (inl here) = other m (omega (arith, lt, here)) (ap (λ n. (get_or ms n m).month) (sym here) ∙ same)
        up k m lt after same (inr later) =
            let short : first < k = omega (arith, after, later) in
            let more = rises ms rise first k m short lt in
            let least = is.here m (omega (arith, short, lt)) in omega (arith, more, least, same)

-- if the month in front of a place is below a month, all in front of it are
pub all_behind : (ms : List MonthUnits) → MonthsRise ms → (place p : ℕ) (x : MonthUnits) → place ≤ length ms → (place ≡ 0 → ⊥)
    → (get_or ms (place - 1) x).month < p → (k : ℕ) (m : MonthUnits) → k < place → (get_or ms k m).month < p
all_behind ms rise place p x within some below k m lt = by (cases_lt k (place - 1))
  where
    last : (get_or ms (place - 1) m).month < p
    last = subst (λ (y : MonthUnits). y.month < p) (get_or_default ms (place - 1) x m (omega (arith, within, lt))) below

    by : (k < place - 1) ⊎ (place - 1 ≤ k) → (get_or ms k m).month < p
    by (inl early) = let up = rises ms rise k (place - 1) m early (omega (arith, within, lt)) in omega (arith, up, last)
    by (inr late) =
        let here : place - 1 ≡ k = omega (arith, lt, late) in subst (λ n. (get_or ms n m).month < p) here last

-- the units of a month that is at a place
pub found_at : (months rests : List MonthUnits) → MonthsRise months → Shrinks months rests → (k p : ℕ) (r : MonthUnits)
    → k < length months → ((m : MonthUnits) → (get_or months k m).month ≡ p) → (get_or rests k r).units ≡ units_at rests p
found_at months rests rise shrinks k p r lt at =
    let m = get_or months k r in
    let x = get_or rests k r in
    let long = length-rests months rests shrinks in
    sym (ap (units_at rests) (sym (at r)) ∙ units_at-beside months rests rise shrinks k m x lt (get_or_default months k r m lt)
    (get_or_default rests k r x (omega (arith, long, lt))))

-- what is left and what there was of a month that is at a place
module _ (months rests : List MonthUnits) (rise : MonthsRise months) (shrinks : Shrinks months rests) (k p : ℕ) (lt : k < length months)
    (at : (m : MonthUnits) → (get_or months k m).month ≡ p) where
  pub left_at : (left : ℕ) (r : MonthUnits) → left ≡ nat_abs (get_or rests k r).units → left ≡ left_of rests p
  left_at left r is = is ∙ ap nat_abs (found_at months rests rise shrinks k p r lt at)

  pub whole_at : (whole : ℕ) (m : MonthUnits) → whole ≡ nat_abs (get_or months k m).units → whole ≡ nat_abs (units_at months p)
  whole_at whole m is = is ∙ ap nat_abs (found_at months months rise (shrinks_none months) k p m lt at)
