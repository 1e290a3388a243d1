-- `rising_by` sorts a list, and `first_some` returns the first outcome.
use Rattle.std.proofs.Common.{◌≡◌, ℕ, ◌≤◌, Bool, true, false, cond, List, [], ◌∷◌, Option, Some, None, refl, ap, arith}
use Rattle.std.specs.Prelude.{nat_le, IsPermutation}
use Rattle.std.specs.List.{AllByRecursion}
use Rattle.std.proofs.lemmas.Bool.Decides.{nat_tests}
use Rattle.std.proofs.lemmas.List.Sorted.{IsPermutation-refl, IsPermutation-sym, IsPermutation-cons}
use Rattle.std.proofs.lemmas.List.Sorted.{IsPermutation-trans, IsPermutation-middle}
use Rattle.span_tables.specs.Faults.{first_some}
use Rattle.span_tables.specs.Laws.{IsRisingBy, IsFirstOutcome}
use Rattle.span_tables.specs.Tables.{placed_by, rising_by}

module _ {A : Type 0} (key : A → ℕ) where
  permutation_if : (b : Bool) (x y : A) (ys more : List A) → IsPermutation (x ∷ ys) more
      → IsPermutation (x ∷ y ∷ ys) (cond b (x ∷ y ∷ ys) (y ∷ more))
  permutation_if true x y ys more h = IsPermutation-refl (x ∷ y ∷ ys)
  permutation_if false x y ys more h =
      IsPermutation-trans (x ∷ y ∷ ys) (y ∷ x ∷ ys) (y ∷ more)
      (IsPermutation-sym (y ∷ x ∷ ys) (x ∷ y ∷ ys) (IsPermutation-middle (y ∷ []) x ys))
      (IsPermutation-cons y (x ∷ ys) more h)

  placed_permutation : (x : A) (ys : List A) → IsPermutation (x ∷ ys) (placed_by key x ys)
  placed_permutation x [] = IsPermutation-refl (x ∷ [])
  placed_permutation x (y ∷ ys) = permutation_if (nat_le (key x) (key y)) x y ys (placed_by key x ys) (placed_permutation x ys)

  -- the sorted list is a permutation of the list
  pub rising_permutation : (xs : List A) → IsPermutation xs (rising_by key xs)
  rising_permutation [] = IsPermutation-refl []
  rising_permutation (x ∷ xs) =
      IsPermutation-trans (x ∷ xs) (x ∷ rising_by key xs) (rising_by key (x ∷ xs))
      (IsPermutation-cons x xs (rising_by key xs) (rising_permutation xs)) (placed_permutation x (rising_by key xs))

  at_least : (m : ℕ) (x y : A) (b : Bool) (ys more : List A) → m ≤ key x → m ≤ key y → AllByRecursion (λ z. m ≤ key z) ys
      → AllByRecursion (λ z. m ≤ key z) more
      → AllByRecursion (λ z. m ≤ key z) (cond b (x ∷ y ∷ ys) (y ∷ more))
  at_least m x y true ys more lx ly h k = (lx, (ly, h))
  at_least m x y false ys more lx ly h k = (ly, k)

  placed_at_least : (m : ℕ) (x : A) (ys : List A) → m ≤ key x → AllByRecursion (λ z. m ≤ key z) ys
      → AllByRecursion (λ z. m ≤ key z) (placed_by key x ys)
  placed_at_least m x [] lx h = (lx, tt)
  placed_at_least m x (y ∷ ys) lx h =
      at_least m x y (nat_le (key x) (key y)) ys (placed_by key x ys) lx h.0 h.1 (placed_at_least m x ys lx h.1)

  more_at_least : (m n : ℕ) (ys : List A) → m ≤ n → AllByRecursion (λ z. n ≤ key z) ys → AllByRecursion (λ z. m ≤ key z) ys
  more_at_least m n [] le h = tt
  more_at_least m n (y ∷ ys) le h = (let ny : n ≤ key y = h.0 in omega arith, more_at_least m n ys le h.1)

  rising_if : (b : Bool) (x y : A) (ys more : List A) → nat_le (key x) (key y) ≡ b → IsRisingBy key (y ∷ ys)
      → AllByRecursion (λ z. key y ≤ key z) ys → (key y ≤ key x → AllByRecursion (λ z. key y ≤ key z) more)
      → IsRisingBy key more
      → IsRisingBy key (cond b (x ∷ y ∷ ys) (y ∷ more))
  rising_if true x y ys more e r h k s =
      let le : key x ≤ key y = grind (arith, nat_tests, e) in ((le, more_at_least (key x) (key y) ys le h), r)
  rising_if false x y ys more e r h k s = let le : key y ≤ key x = grind (arith, nat_tests, e) in (k le, s)

  placed_rises : (x : A) (ys : List A) → IsRisingBy key ys → IsRisingBy key (placed_by key x ys)
  placed_rises x [] r = (tt, tt)
  placed_rises x (y ∷ ys) r =
      rising_if (nat_le (key x) (key y)) x y ys (placed_by key x ys) refl r r.0 (λ le. placed_at_least (key y) x ys le r.0)
      (placed_rises x ys r.1)

  -- the sorted list rises by the key
  pub rising_rises : (xs : List A) → IsRisingBy key (rising_by key xs)
  rising_rises [] = tt
  rising_rises (x ∷ xs) = placed_rises x (rising_by key xs) (rising_rises xs)

-- the answer is the first outcome that is not `None`
pub first_some_is : {F : Type 0} (outcomes : List (Option F)) (y : F) → first_some outcomes ≡ Some y → IsFirstOutcome outcomes y
first_some_is [] y e = cc
first_some_is (Some x ∷ rest) y e = record { earlier = []; later = rest; split = ap (λ o. o ∷ rest) e; none_earlier = tt }
first_some_is (None ∷ rest) y e =
    let more = first_some_is rest y e in
    record {
      earlier = None ∷ more.earlier;
      later = more.later;
      split = ap (λ os. None ∷ os) more.split;
      none_earlier = (refl, more.none_earlier);
    }
