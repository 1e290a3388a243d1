-- The number of records of a commodity is within its limit, for every commodity.
use Rattle.std.proofs.Common.{◌≡◌, ℕ, ◌≤◌, Bool, true, false, cond, List, [], ◌∷◌}
use Rattle.std.proofs.Common.{length, map, filter, refl, sym, ap, ◌∙◌, subst, arith, inl, inr}
use Rattle.std.specs.Prelude.{◌||◌, bytes_eq, count_by, nat_le, IsPermutation}
use Rattle.std.specs.List.{list_all, list_any}
use Rattle.std.proofs.lemmas.Bool.{cases_Bool, leb-true, and_parts, or_parts}
use Rattle.std.proofs.lemmas.List.{length-map}
use Rattle.std.proofs.lemmas.List.Sorted.{sum_by-IsPermutation}
use Rattle.std.proofs.lemmas.List.Sums.{length-filter}
use Rattle.std.proofs.lemmas.Slice.Eq.{bytes_eq-Decides}
use Rattle.span_tables.specs.near.Limits.{at_most_each}

module _ {X : Type 0} (key : X → List ℕ) where
  -- the number of elements that have a name
  abbrev of_name : List ℕ → List X → ℕ
  of_name id xs = count_by (λ y. bytes_eq (key y) id) xs

  none_has : (id : List ℕ) (xs : List X) → list_any (λ x. bytes_eq (key x) id) xs ≡ false
      → filter (λ x. bytes_eq (key x) id) xs ≡ []
  none_has id [] e = refl
  none_has id (x ∷ xs) e =
      let h = or_parts (bytes_eq (key x) id) (list_any (λ y. bytes_eq (key y) id) xs) e in rw h.0 (none_has id xs h.1)

  by_head : (b : Bool) (x : X) (id : List ℕ) (all : List X) (most : ℕ) (more : Bool) → bytes_eq (key x) id ≡ b
      → of_name (key x) all ≤ most → (b || more) ≡ true
      → (more ≡ true → of_name id all ≤ most) → of_name id all ≤ most
  by_head true x id all most more is few some rest = subst (λ n. of_name n all ≤ most) ((bytes_eq-Decides (key x) id).0 is) few
  by_head false x id all most more is few some rest = rest some

  one_has : (most : ℕ) (id : List ℕ) (all xs : List X) → list_all (λ x. nat_le (of_name (key x) all) most) xs ≡ true
      → list_any (λ x. bytes_eq (key x) id) xs ≡ true
      → of_name id all ≤ most
  one_has most id all [] few some = cc
  one_has most id all (x ∷ xs) few some =
      let h = and_parts _ _ few in
      by_head (bytes_eq (key x) id) x id all most (list_any (λ x. bytes_eq (key x) id) xs) refl (leb-true _ _ h.0) some
      (one_has most id all xs h.1)

  -- at most this many elements have any one name
  pub at_most : (most : ℕ) (xs : List X) → at_most_each most key xs ≡ true → (id : List ℕ)
      → length (filter (λ x. bytes_eq (key x) id) xs) ≤ most
  at_most most xs few id =
      elim (cases_Bool (list_any (λ x. bytes_eq (key x) id) xs)) [
        | inl some ↦ (let le : of_name id xs ≤ most = one_has most id xs xs few some in
            let n : length (filter (λ x. bytes_eq (key x) id) xs) ≡ of_name id xs = length-filter (λ x. bytes_eq (key x) id) xs in
            omega (arith, n, le))
        | inr none ↦ (let n : length (filter (λ x. bytes_eq (key x) id) xs) ≡ 0 = ap length (none_has id xs none) in omega (arith, n))
      ]

  -- the same for a permutation of the list
  pub at_most_permuted : {Y : Type 0} (f : X → Y) (most : ℕ) (xs ys : List X) → at_most_each most key xs ≡ true
      → IsPermutation xs ys → (id : List ℕ)
      → length (map f (filter (λ x. bytes_eq (key x) id) ys)) ≤ most
  at_most_permuted f most xs ys few same id =
      let le = at_most most xs few id in
      let long : length (map f (filter (λ x. bytes_eq (key x) id) ys)) ≡ length (filter (λ x. bytes_eq (key x) id) ys) =
      length-map (filter (λ x. bytes_eq (key x) id) ys) f in
      let count : length (filter (λ x. bytes_eq (key x) id) ys) ≡ length (filter (λ x. bytes_eq (key x) id) xs) =
      length-filter (λ x. bytes_eq (key x) id) ys ∙ sum_by-IsPermutation (λ x. cond (bytes_eq (key x) id) 1 0) xs ys same
      ∙ sym (length-filter (λ x. bytes_eq (key x) id) xs) in
      omega (arith, le, long, count)
