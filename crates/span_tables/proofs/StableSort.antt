-- A stable sort by a number gives the same list as `rising_by`.
use Rattle.std.proofs.Common.{◌≡◌, ℕ, suc, ◌<◌, ◌≤◌, Bool, true, false, cond, eqb, ltb, not}
use Rattle.std.proofs.Common.{List, [], ◌∷◌, filter, refl, sym, ap, ◌∙◌, subst, arith, inl, inr, Less, Equal, Greater}
use Rattle.std.specs.Prelude.{nat_le, ◌&&◌}
use Rattle.std.specs.List.{AllByRecursion}
use Rattle.std.specs.List.Sorted.{IsNonDecreasingBy, IsSortedByKey, IsStableByKey, IsSortedByKeyClosure, IsStableByKeyClosure, ties}
use Rattle.std.specs.Fn.{Called, ComputesKey}
use Rattle.std.proofs.lemmas.Fn.{always_returns_same}
use denote.Ref.{Bor}
use denote.Param.Members.{Mut}
use Rattle.std.specs.Ordering.{is_lt, nat_cmp}
use Rattle.std.proofs.lemmas.Bool.{cases_lt}
use Rattle.std.proofs.lemmas.Bool.Decides.{nat_tests}
use Rattle.std.proofs.lemmas.List.Elements.{filter_agree, recursion_from_All}
use Rattle.std.proofs.lemmas.List.Sorted.{IsNonDecreasingBy-from_sort}
use Rattle.span_tables.specs.Laws.{IsRisingBy}
use Rattle.span_tables.specs.Tables.{placed_by, rising_by}
use Rattle.span_tables.proofs.OrderLaws.{rising_rises}

-- two numbers tie if and only if they are equal
tie_by : (l e m f : Bool) → ((l ≡ true) → (e ≡ false) × (m ≡ false) × (f ≡ false)) → ((m ≡ true) → f ≡ false)
    → ((l ≡ false) → (m ≡ false) → f ≡ true)
    → (not (is_lt (cond l Less (cond e Equal Greater))) && not (is_lt (cond m Less (cond f Equal Greater)))) ≡ f
tie_by true e m f a b c = sym (a refl).2
tie_by false true true f a b c = sym (b refl)
tie_by false false true f a b c = sym (b refl)
tie_by false true false true a b c = refl
tie_by false false false true a b c = refl
tie_by false true false false a b c = sym (c refl refl)
tie_by false false false false a b c = sym (c refl refl)

tie : (a b : ℕ) → (not (is_lt (nat_cmp a b)) && not (is_lt (nat_cmp b a))) ≡ eqb b a
tie a b =
    tie_by (ltb a b) (eqb a b) (ltb b a) (eqb b a)
    (λ e. (grind (arith, nat_tests), grind (arith, nat_tests), grind (arith, nat_tests)))
    (λ e. grind (arith, nat_tests)) (λ e f. grind (arith, nat_tests))

module _ {A : Type 0} (key : A → ℕ) where
  -- the elements that have a key
  abbrev of_key : ℕ → List A → List A
  of_key k xs = filter (λ x. eqb (key x) k) xs

  rises_by_recursion : (xs : List A) → IsNonDecreasingBy key xs → IsRisingBy key xs
  rises_by_recursion [] up = tt
  rises_by_recursion (x ∷ xs) up = (
    recursion_from_All (λ y. key x ≤ key y) xs (λ k d lt. up 0 (suc k) d (omega arith) (omega arith)),
    rises_by_recursion xs (λ i j d le lt. up (suc i) (suc j) d (omega arith) (omega arith)),
  )

  -- no element has a key below all keys
  none_below : (k m : ℕ) (xs : List A) → k < m → AllByRecursion (λ y. m ≤ key y) xs → of_key k xs ≡ []
  none_below k m [] lt above = refl
  none_below k m (x ∷ xs) lt above =
      let le : m ≤ key x = above.0 in
      let other : eqb (key x) k ≡ false = grind (arith, nat_tests) in
      rw other (none_below k m xs lt above.1)

  head_of_key : (x : A) (xs : List A) → of_key (key x) (x ∷ xs) ≡ x ∷ of_key (key x) xs
  head_of_key x xs = let same : eqb (key x) (key x) ≡ true = grind (arith, nat_tests) in rw same refl

  below_not : (x y : A) (xs ys : List A) → IsRisingBy key (y ∷ ys) → of_key (key x) (x ∷ xs) ≡ of_key (key x) (y ∷ ys)
      → key x < key y → key y ≤ key x
  below_not x y xs ys up same lt =
      let none : of_key (key x) (y ∷ ys) ≡ [] = none_below (key x) (key y) (y ∷ ys) lt (omega arith, up.0) in
      let some : x ∷ of_key (key x) xs ≡ [] = sym (head_of_key x xs) ∙ same ∙ none in cc

  not_below : (x y : A) (xs ys : List A) → IsRisingBy key (y ∷ ys) → of_key (key x) (x ∷ xs) ≡ of_key (key x) (y ∷ ys)
      → key y ≤ key x
  not_below x y xs ys up same =
      elim (cases_lt (key x) (key y)) [ inl lt ↦ below_not x y xs ys up same lt | inr le ↦ le ]

  tail_if : (b : Bool) (x y : A) (us vs : List A) → x ≡ y → cond b (x ∷ us) us ≡ cond b (y ∷ vs) vs → us ≡ vs
  tail_if true x y us vs is same = cc
  tail_if false x y us vs is same = same

  -- rising lists that have the same elements for each key are equal
  same_rising : (xs ys : List A) → IsRisingBy key xs → IsRisingBy key ys → ((a : A) → of_key (key a) xs ≡ of_key (key a) ys)
      → xs ≡ ys
  same_rising [] [] up uq same = refl
  same_rising [] (y ∷ ys) up uq same = let e : [] ≡ y ∷ of_key (key y) ys = same y ∙ head_of_key y ys in absurd cc
  same_rising (x ∷ xs) [] up uq same = let e : x ∷ of_key (key x) xs ≡ [] = sym (head_of_key x xs) ∙ same x in absurd cc
  same_rising (x ∷ xs) (y ∷ ys) up uq same =
      let le : key y ≤ key x = not_below x y xs ys uq (same x) in
      let ge : key x ≤ key y = not_below y x ys xs up (sym (same y)) in
      let keys : key x ≡ key y = omega arith in
      let heads : x ∷ of_key (key x) xs ≡ y ∷ of_key (key y) ys = sym (head_of_key x xs) ∙ same x
      ∙ ap (λ k. of_key k (y ∷ ys)) keys ∙ head_of_key y ys in
      let here : x ≡ y = cc in
      let rest : (a : A) → of_key (key a) xs ≡ of_key (key a) ys =
      λ a. tail_if (eqb (key x) (key a)) x y (of_key (key a) xs) (of_key (key a) ys) here
      (subst (λ z. of_key (key a) (x ∷ xs) ≡ cond (eqb (key z) (key a)) (y ∷ of_key (key a) ys) (of_key (key a) ys)) (sym here)
      (same a)) in
      let tails = same_rising xs ys up.1 uq.1 rest in
      cc

  -- an element moves past an element with another key
  passed : (k : ℕ) (x y : A) (ys more : List A) (p q : Bool) → key y < key x → of_key k more ≡ of_key k (x ∷ ys)
      → eqb (key x) k ≡ p → eqb (key y) k ≡ q → of_key k (y ∷ more) ≡ of_key k (x ∷ y ∷ ys)
  passed k x y ys more true true lt same e f = absurd (grind (arith, nat_tests))
  passed k x y ys more true false lt same e f = rw (e, f, same) (rw e refl)
  passed k x y ys more false q lt same e f = rw (e, same) (rw e refl)

  placed_if : (k : ℕ) (b : Bool) (x y : A) (ys more : List A) → nat_le (key x) (key y) ≡ b → of_key k more ≡ of_key k (x ∷ ys)
      → of_key k (cond b (x ∷ y ∷ ys) (y ∷ more)) ≡ of_key k (x ∷ y ∷ ys)
  placed_if k true x y ys more is same = refl
  placed_if k false x y ys more is same =
      let lt : key y < key x = grind (arith, nat_tests) in passed k x y ys more (eqb (key x) k) (eqb (key y) k) lt same refl refl

  placed_of_key : (k : ℕ) (x : A) (ys : List A) → of_key k (placed_by key x ys) ≡ of_key k (x ∷ ys)
  placed_of_key k x [] = refl
  placed_of_key k x (y ∷ ys) = placed_if k (nat_le (key x) (key y)) x y ys (placed_by key x ys) refl (placed_of_key k x ys)

  -- `rising_by` keeps the order of elements with the same key
  pub rising_of_key : (k : ℕ) (xs : List A) → of_key k (rising_by key xs) ≡ of_key k xs
  rising_of_key k [] = refl
  rising_of_key k (x ∷ xs) = placed_of_key k x (rising_by key xs) ∙ ap (λ ws. cond (eqb (key x) k) (x ∷ ws) ws) (rising_of_key k xs)

  -- the result of a stable sort by the key
  pub sorted_rising : (xs ys : List A) → IsSortedByKey key nat_cmp ys → IsStableByKey key nat_cmp xs ys → ys ≡ rising_by key xs
  sorted_rising xs ys sorted stable =
      same_rising ys (rising_by key xs) (rises_by_recursion ys (IsNonDecreasingBy-from_sort key ys sorted)) (rising_rises key xs)
      (λ a. sym (filter_agree (ties (λ x y. is_lt (nat_cmp (key x) (key y))) a) (λ y. eqb (key y) (key a))
      (λ y. tie (key a) (key y)) ys)
      ∙ stable a
      ∙ filter_agree (ties (λ x y. is_lt (nat_cmp (key x) (key y))) a) (λ y. eqb (key y) (key a)) (λ y. tie (key a) (key y)) xs
      ∙ sym (rising_of_key (key a) xs))

  -- a list sorted by `sort_by_key` rises by the key that the closure returns
  pub sorted_by_closure : {F : Type 0} {g : Mut F (Bor A × Unit {0}) ℕ} {f : F} (xs ys : List A) → IsSortedByKeyClosure g nat_cmp f ys
      → IsStableByKeyClosure g nat_cmp f xs ys
      → ((a : Bor A × Unit {0}) (r : ℕ) (f' : F) → Called g f a r f' → (r ≡ key a.0.now) × (f' ≡ f))
      → ys ≡ rising_by key xs
  sorted_by_closure {g = g} {f = f} xs ys sorted stable calls =
      let keys : ComputesKey g key f = always_returns_same g (λ a r. r ≡ key a.0.now) f calls in
      sorted_rising xs ys (sorted key keys) (stable key keys)
