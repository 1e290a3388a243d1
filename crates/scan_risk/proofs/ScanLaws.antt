-- Lemmas about the scan.
use Rattle.std.proofs.Common.{◌≡◌, ℕ, suc, zero, ◌+◌, ◌-◌, ◌<◌, ◌≤◌, take, Bool, true, false, List, [], ◌∷◌, length, get_or}
use Rattle.std.proofs.Common.{refl, sym, ap, ◌∙◌, arith, subst, inl, inr, Some, cond, not}
use Rattle.std.specs.Prelude.{ℤ, pos, fold, All, Contains, ◌≤ℤ◌, ◌<ℤ◌, unwrap_or, None, int_le, nat_lt, position}
use Rattle.std.specs.List.{position_or_len}
use Rattle.std.specs.Int.{int_max}
use Rattle.std.proofs.lemmas.Int.{ints, int_max_is, fold-int_max_bounds, fold-int_max_reached}
use Rattle.std.proofs.lemmas.Bool.Decides.{nat_tests}
use Rattle.std.proofs.lemmas.List.{get_or_default, take_all}
use Rattle.std.proofs.lemmas.List.Sums.{position_or_len_is, AllPass-from_list_all, list_all-from_AllPass}
use Rattle.std.proofs.lemmas.List.Folds.{list_all_at}
use Rattle.std.proofs.lemmas.List.Quantifiers.{position-Some}
use Rattle.scan_risk.specs.Scenarios.{scan_risk, is_largest, active_scenario, at_scenario}

-- scan risk is the least number that is at least 0 and at least each sum
pub scan_risk_least : (sums : List ℤ) → (pos 0 ≤ℤ scan_risk sums) × All (λ s. s ≤ℤ scan_risk sums) sums
    × ((g : ℤ) → pos 0 ≤ℤ g → All (λ s. s ≤ℤ g) sums → scan_risk sums ≤ℤ g)
scan_risk_least sums =
    let b = fold-int_max_bounds (pos 0) sums (scan_risk sums) refl in (
      b.0,
      b.1,
      λ g zero all. elim (fold-int_max_reached (pos 0) sums (scan_risk sums) refl) [
        | inl e ↦ subst (λ z. z ≤ℤ g) (sym e) zero
        | inr c ↦ subst (λ z. z ≤ℤ g) c.2 (all c.0 (scan_risk sums) c.1)
      ],
    )

-- the larger of a number and 0
max_above : (m : ℤ) → (pos 0 ≤ℤ int_max m (pos 0)) × (m ≤ℤ int_max m (pos 0))
max_above m = (omega (arith, ints, int_max_is m (pos 0)), omega (arith, ints, int_max_is m (pos 0)))

max_is : (m risk : ℤ) → pos 0 ≤ℤ risk → m ≤ℤ risk → risk ≤ℤ int_max m (pos 0) → risk ≡ int_max m (pos 0)
max_is m risk above least most = omega (arith, ints, int_max_is m (pos 0))

le_through : (a b c : ℤ) → a ≤ℤ b → b ≤ℤ c → a ≤ℤ c
le_through a b c ab bc = omega (arith, ints)

-- scan risk is the largest sum, or 0 if that is negative
pub risk_from : (sums : List ℤ) (m : ℤ) → All (λ s. s ≤ℤ m) sums → Contains sums m → scan_risk sums ≡ int_max m (pos 0)
risk_from sums m above found =
    let risk = scan_risk_least sums in
    let max = max_above m in
    let least : m ≤ℤ scan_risk sums = subst (λ z. z ≤ℤ scan_risk sums) found.2 (risk.1 found.0 m found.1) in
    max_is m (scan_risk sums) risk.0 least
    (risk.2 (int_max m (pos 0)) max.0 (λ k d lt. le_through (get_or sums k d) m (int_max m (pos 0)) (above k d lt) max.1))

-- the maximum of all sums, from the first one on
pub largest_from : (sums : List ℤ) (i : ℕ) (m : ℤ) → 0 < length sums → length sums ≤ i
    → m ≡ fold int_max (get_or sums 0 (pos 0)) (take i sums) → All (λ s. s ≤ℤ m) sums × Contains sums m
largest_from sums i m some all is =
    let first : ℤ = get_or sums 0 (pos 0) in
    let whole : m ≡ fold int_max first sums = is ∙ ap (λ xs. fold int_max first xs) (take_all i sums all) in (
      (fold-int_max_bounds first sums m whole).1,
      elim (fold-int_max_reached first sums m whole) [
        | inl e ↦ (0, some, get_or_default sums 0 m (pos 0) some ∙ sym e)
        | inr c ↦ c
      ],
    )

le_test : (a b : ℤ) → a ≤ℤ b → int_le a b ≡ true
le_test a b h = grind (arith, ints)

le_tested : (a b : ℤ) → int_le a b ≡ true → a ≤ℤ b
le_tested a b h = grind (arith, ints)

-- the test `is_largest` is true if and only if the number is at least each sum
largest_test : (sums : List ℤ) (z : ℤ) → All (λ t. t ≤ℤ z) sums → is_largest sums z ≡ true
largest_test sums z all = list_all-from_AllPass (λ t. int_le t z) sums (λ k d lt. le_test _ z (all k d lt))

largest_tested : (sums : List ℤ) (z : ℤ) → is_largest sums z ≡ true → All (λ t. t ≤ℤ z) sums
largest_tested sums z e k d lt = le_tested _ z (AllPass-from_list_all (λ t. int_le t z) sums e k d lt)

-- if an element passes, there is a first index that does
place_exists : {X : Type 0} (p : X → Bool) (xs : List X) (i : ℕ) (d : X) → i < length xs → p (get_or xs i d) ≡ true
    → position_or_len p xs < length xs
place_exists p [] i d lt e = absurd (omega arith)
place_exists p (x ∷ xs) zero d lt e = rw e (omega arith)
place_exists {X} p (x ∷ xs) (suc i) d lt e = by_test (p x) (place_exists p xs i d (omega arith) e) where
  by_test : (b : Bool) → position_or_len p xs < length xs → cond (not b) (1 + position_or_len p xs) 0 < suc (length xs)
  by_test true h = omega arith
  by_test false h = omega arith

-- a bound of the first element and of the others bounds all
all_cons : (s : ℤ) (rest : List ℤ) (m : ℤ) → s ≤ℤ m → All (λ t. t ≤ℤ m) rest → All (λ t. t ≤ℤ m) (s ∷ rest)
all_cons s rest m first others zero d lt = first
all_cons s rest m first others (suc k) d lt = others k d (omega arith)

-- the default does not matter for an index within the list
same_element : (xs : List ℤ) (i : ℕ) (m : ℤ) → i < length xs → get_or xs i m ≡ m → get_or xs i (pos 0) ≡ m
same_element xs i m lt e = get_or_default xs i (pos 0) m lt ∙ e

-- one of the sums is at least each of them
some_largest : (s : ℤ) (rest : List ℤ)
    → (i : ℕ) × (i < length (s ∷ rest)) × (is_largest (s ∷ rest) (get_or (s ∷ rest) i (pos 0)) ≡ true)
some_largest s rest =
    let m = fold int_max s rest in
    let b = fold-int_max_bounds s rest m refl in
    let above : All (λ t. t ≤ℤ m) (s ∷ rest) = all_cons s rest m b.0 b.1 in
    elim (fold-int_max_reached s rest m refl) [
      | inl e ↦ (0, omega arith, largest_test (s ∷ rest) s (subst (λ z. All (λ t. t ≤ℤ z) (s ∷ rest)) e above))
      | inr c ↦ (
        suc c.0,
        omega (arith, c.1),
        largest_test (s ∷ rest) (get_or rest c.0 (pos 0))
            (subst (λ z. All (λ t. t ≤ℤ z) (s ∷ rest)) (sym (same_element rest c.0 m c.1 c.2)) above),
      )
    ]

-- the index of the active scenario's sum
place : List ℤ → ℕ
place sums = position_or_len (is_largest sums) sums

position_is : (s : ℤ) (rest : List ℤ)
    → position (is_largest (s ∷ rest)) (s ∷ rest) ≡ Some (position_or_len (is_largest (s ∷ rest)) (s ∷ rest))
position_is s rest =
    let w = some_largest s rest in
    let lt = place_exists (is_largest (s ∷ rest)) (s ∷ rest) w.0 (pos 0) w.1 w.2 in
    let yes : nat_lt (position_or_len (is_largest (s ∷ rest)) (s ∷ rest)) (length (s ∷ rest)) ≡ true =
    grind (arith, nat_tests, lt) in
    ap (λ b. cond b (Some (position_or_len (is_largest (s ∷ rest)) (s ∷ rest))) None) yes

-- the active scenario's sum is at least every sum, and no lower-numbered scenario's sum is
pub active_is_largest : (s : ℤ) (rest : List ℤ)
    → All (λ t. t ≤ℤ at_scenario (s ∷ rest) (active_scenario (s ∷ rest))) (s ∷ rest)
active_is_largest s rest =
    let p = position_is s rest in
    let found = position-Some (is_largest (s ∷ rest)) (s ∷ rest) _ (pos 0) p in
    let a = position_or_len (is_largest (s ∷ rest)) (s ∷ rest) in
    let less : a + 1 - 1 ≡ a = omega arith in
    subst (λ o. All (λ t. t ≤ℤ at_scenario (s ∷ rest) (unwrap_or o 0 + 1)) (s ∷ rest)) (sym p)
    (largest_tested (s ∷ rest) _ (subst (λ i. is_largest (s ∷ rest) (get_or (s ∷ rest) i (pos 0)) ≡ true) (sym less) found.1))

pub active_is_first : (s : ℤ) (rest : List ℤ) (k : ℕ) → 0 < k → k < active_scenario (s ∷ rest)
    → ¬ (All (λ t. t ≤ℤ at_scenario (s ∷ rest) k) (s ∷ rest))
active_is_first s rest k lo hi all =
    let p = position_is s rest in
    let found = position-Some (is_largest (s ∷ rest)) (s ∷ rest) _ (pos 0) p in
    let below : k < position_or_len (is_largest (s ∷ rest)) (s ∷ rest) + 1 = subst (λ o. k < unwrap_or o 0 + 1) p hi in
    let no = found.2 (k - 1) (omega arith) in
    let yes = largest_test (s ∷ rest) (at_scenario (s ∷ rest) k) all in
    let both : true ≡ false = sym yes ∙ no in
    cc

gt_test : (a b : ℤ) → a <ℤ b → int_le b a ≡ false
gt_test a b h = grind (arith, ints)

-- the index of the first largest sum gives the active scenario, for code that searches for it
pub active_from : (sums : List ℤ) (i : ℕ) → i < length sums
    → ((k : ℕ) → k < length sums → get_or sums k (pos 0) ≤ℤ get_or sums i (pos 0))
    → ((k : ℕ) → k < i → get_or sums k (pos 0) <ℤ get_or sums i (pos 0)) → active_scenario sums ≡ i + 1
active_from sums i lt above before =
    let z = get_or sums i (pos 0) in
    let all : All (λ t. t ≤ℤ z) sums = λ k d h. subst (λ t. t ≤ℤ z) (get_or_default sums k (pos 0) d h) (above k h) in
    let at : position_or_len (is_largest sums) sums ≡ i =
    position_or_len_is (is_largest sums) sums i (pos 0) (omega arith)
    (λ k h. list_all_at (λ t. int_le t (get_or sums k (pos 0))) sums i (pos 0) lt (gt_test (get_or sums k (pos 0)) z (before k h)))
    (λ h. largest_test sums z all) in
    let yes : nat_lt i (length sums) ≡ true = grind (arith, nat_tests, lt) in
    ap (λ j. unwrap_or (cond (nat_lt j (length sums)) (Some j) None) 0 + 1) at ∙ ap (λ b. unwrap_or (cond b (Some i) None) 0 + 1) yes

lt_from : (a b : ℤ) → a ≤ℤ b → (a ≡ b → ⊥) → a <ℤ b
lt_from a b le apart = grind (arith, ints)

-- the first index of a number that is at least each sum gives the active scenario
pub active_first : (sums : List ℤ) (m : ℤ) (i : ℕ) → i < length sums → All (λ s. s ≤ℤ m) sums
    → get_or sums i (pos 0) ≡ m → ((k : ℕ) → k < i → get_or sums k (pos 0) ≡ m → ⊥) → active_scenario sums ≡ i + 1
active_first sums m i lt above here before =
    active_from sums i lt
    (λ k h. subst (λ z. get_or sums k (pos 0) ≤ℤ z) (sym here) (above k (pos 0) h))
    (λ k h. subst (λ z. get_or sums k (pos 0) <ℤ z) (sym here)
    (lt_from (get_or sums k (pos 0)) m (above k (pos 0) (omega arith)) (before k h)))
