-- Lists sorted by a text in byte order.
use Rattle.std.proofs.Common.{◌≡◌, ◌∙◌, ℕ, suc, ◌<◌, ◌≤◌, Bool, true, false, cond, not, ◌&&◌, get_or}
use Rattle.std.proofs.Common.{List, [], ◌∷◌, ◌++◌, filter, refl, sym, ap, subst, arith, Ordering, Less, Equal, Greater}
use Rattle.std.specs.Prelude.{IsPermutation, IsSortedByKey, bytes_eq, length}
use Rattle.std.specs.Cmp.Lexicographic.{slice_cmp, texts_ties}
use Rattle.std.specs.Cmp.{IsStrictWeakOrder}
use Rattle.std.specs.List.{AllByRecursion}
use Rattle.std.specs.List.Sorted.{IsStableByKey, ties}
use Rattle.std.specs.Ordering.{is_eq, is_lt, nat_cmp, ordering_reverse}
use Rattle.std.proofs.lemmas.Bool.{true≢false}
use Rattle.std.proofs.lemmas.Cmp.{nat_list_cmp_total}
use Rattle.std.proofs.lemmas.List.Elements.{filter-append, filter_agree}
use Rattle.std.proofs.lemmas.List.Sorted.{IsPermutation-cons, IsPermutation-middle, IsPermutation-refl}
use Rattle.std.proofs.lemmas.List.Sorted.{IsPermutation-sym, IsPermutation-trans, ranks_by, sorted_far}
use Rattle.span_tables.proofs.NameLemmas.{same_name}
use Rattle.binding.proofs.AccountLaws.{bytes_eq-refl}

-- two texts are equal if neither is below the other
tie_by : (o : Ordering) → (not (is_lt (ordering_reverse o)) && not (is_lt o)) ≡ is_eq o
tie_by Less = refl
tie_by Equal = refl
tie_by Greater = refl

tie : (a b : List ℕ) → (not (is_lt (slice_cmp nat_cmp a b)) && not (is_lt (slice_cmp nat_cmp b a))) ≡ bytes_eq b a
tie a b =
    ap (λ o. not (is_lt o) && not (is_lt (slice_cmp nat_cmp b a))) (nat_list_cmp_total.antisymm a b)
    ∙ tie_by (slice_cmp nat_cmp b a)
    ∙ sym (texts_ties b a)

module _ {A : Type 0} (key : A → List ℕ) where
  -- the elements with a key
  abbrev of_key : List ℕ → List A → List A
  of_key k xs = filter (λ x. bytes_eq (key x) k) xs

  head_of_key : (x : A) (xs : List A) → of_key (key x) (x ∷ xs) ≡ x ∷ of_key (key x) xs
  head_of_key x xs = rw (bytes_eq-refl (key x)) refl

  -- a list in which an element is the first with its key
  record HasFirst (k : List ℕ) (x : A) (rest ys : List A) : Type 0 where
    front : List A
    back : List A
    split : ys ≡ front ++ x ∷ back
    before : of_key k front ≡ []
    behind : of_key k back ≡ rest

  first_of_key : (k : List ℕ) (x : A) (rest ys : List A) → of_key k ys ≡ x ∷ rest → HasFirst k x rest ys
  first_of_key k x rest [] e = absurd cc
  first_of_key k x rest (y ∷ ys) e = by (bytes_eq (key y) k) refl e (λ found. first_of_key k x rest ys found)
    where
      by : (b : Bool) → bytes_eq (key y) k ≡ b → cond b (y ∷ of_key k ys) (of_key k ys) ≡ x ∷ rest
          → (of_key k ys ≡ x ∷ rest → HasFirst k x rest ys) → HasFirst k x rest (y ∷ ys)
      by true here e behind =
          let first : y ≡ x = cc in
          record { front = []; back = ys; split = ap (λ z. z ∷ ys) first; before = refl; behind = cc }
      by false here e behind =
          let more = behind e in
          record {
            front = y ∷ more.front;
            back = more.back;
            split = ap (λ zs. y ∷ zs) more.split;
            before = ap (λ b. cond b (y ∷ of_key k more.front) (of_key k more.front)) here ∙ more.before;
            behind = more.behind;
          }

  -- lists with the same elements for each key, in the same order, are permutations of each other
  pub same_by_key : (xs ys : List A) → ((a : A) → of_key (key a) ys ≡ of_key (key a) xs) → IsPermutation xs ys
  same_by_key [] [] same = IsPermutation-refl []
  same_by_key [] (y ∷ ys) same =
      let e : y ∷ of_key (key y) ys ≡ [] = sym (head_of_key y ys) ∙ same y in absurd cc
  same_by_key (x ∷ xs) ys same =
      let found = first_of_key (key x) x (of_key (key x) xs) ys (same x ∙ head_of_key x xs) in
      let rest = same_by_key xs (found.front ++ found.back)
      (λ a. without a found (bytes_eq (key x) (key a)) refl) in
      subst (IsPermutation (x ∷ xs)) (sym found.split)
      (IsPermutation-trans _ _ _ (IsPermutation-cons x xs (found.front ++ found.back) rest)
      (IsPermutation-sym _ _ (IsPermutation-middle found.front x found.back)))
    where
      without : (a : A) (found : HasFirst (key x) x (of_key (key x) xs) ys) (b : Bool) → bytes_eq (key x) (key a) ≡ b
          → of_key (key a) (found.front ++ found.back) ≡ of_key (key a) xs
      without a found true e =
          let one : key x ≡ key a = same_name (key x) (key a) e in
          let both = filter-append (λ z. bytes_eq (key z) (key x)) found.front found.back in
          let here : of_key (key x) (found.front ++ found.back) ≡ of_key (key x) xs =
          both ∙ ap (λ zs. zs ++ of_key (key x) found.back) found.before ∙ found.behind in
          subst (λ k. of_key k (found.front ++ found.back) ≡ of_key k xs) one here
      without a found false e =
          let whole : of_key (key a) ys ≡ of_key (key a) xs =
          same a ∙ ap (λ b. cond b (x ∷ of_key (key a) xs) (of_key (key a) xs)) e in
          let parts : of_key (key a) ys ≡ of_key (key a) found.front ++ of_key (key a) found.back =
          ap (of_key (key a)) found.split ∙ filter-append (λ z. bytes_eq (key z) (key a)) found.front (x ∷ found.back)
          ∙ ap (λ b. of_key (key a) found.front ++ cond b (x ∷ of_key (key a) found.back) (of_key (key a) found.back)) e in
          filter-append (λ z. bytes_eq (key z) (key a)) found.front found.back ∙ sym parts ∙ whole

  -- a stable sort keeps the elements of each key in their order
  pub stable_by_key : (xs ys : List A) → IsStableByKey key (slice_cmp nat_cmp) xs ys
      → (a : A) → of_key (key a) ys ≡ of_key (key a) xs
  stable_by_key xs ys stable a =
      let agree = filter_agree (ties (λ x y. is_lt (slice_cmp nat_cmp (key x) (key y))) a) (λ y. bytes_eq (key y) (key a))
      (λ y. tie (key a) (key y)) in
      sym (agree ys) ∙ stable a ∙ agree xs

  -- a stable sort is a permutation
  pub stable_sort : (xs ys : List A) → IsStableByKey key (slice_cmp nat_cmp) xs ys → IsPermutation xs ys
  stable_sort xs ys stable = same_by_key xs ys (stable_by_key xs ys stable)

  -- ---- cuts of a sorted list

  abbrev pub less : A → A → Bool
  less x y = is_lt (slice_cmp nat_cmp (key x) (key y))

  order : IsStrictWeakOrder less
  order = ranks_by nat_list_cmp_total key

  -- no element of the list is below this element
  abbrev pub Above : A → List A → Type 0
  Above x ys = AllByRecursion (λ y. less y x ≡ false) ys

  abbrev pub Rises : List A → Type 0
  Rises [] = Unit {0}
  Rises (x ∷ xs) = Above x xs × Rises xs

  above_of : (x : A) (ys : List A) → ((k : ℕ) (d : A) → k < length ys → less (get_or ys k d) x ≡ false) → Above x ys
  above_of x [] h = tt
  above_of x (y ∷ ys) h = (h 0 x (omega arith), above_of x ys (λ k d lt. h (suc k) d (omega arith)))

  rises_of : (xs : List A) → ((i j : ℕ) (d : A) → i ≤ j → j < length xs → less (get_or xs j d) (get_or xs i d) ≡ false) → Rises xs
  rises_of [] h = tt
  rises_of (x ∷ xs) h = (
    above_of x xs (λ k d lt. h 0 (suc k) d (omega arith) (omega arith)),
    rises_of xs (λ i j d le lt. h (suc i) (suc j) d (omega arith) (omega arith)),
  )

  pub rises_sorted : (xs : List A) → IsSortedByKey key (slice_cmp nat_cmp) xs → Rises xs
  rises_sorted xs sorted = rises_of xs (sorted_far less order xs sorted)

  pub not_below_itself : (x : A) → less x x ≡ false
  not_below_itself x = by (less x x) refl
    where
      by : (b : Bool) → less x x ≡ b → less x x ≡ false
      by true e = order.one_way x x e
      by false e = e

  -- an element before a cut and an element after it have different keys
  pub apart_by_cut : (p q u v : A) → less p u ≡ false → less q p ≡ false → less v q ≡ false → bytes_eq (key p) (key q) ≡ false
      → bytes_eq (key u) (key v) ≡ false
  apart_by_cut p q u v low up high apart = by (bytes_eq (key u) (key v)) refl
    where
      by : (b : Bool) → bytes_eq (key u) (key v) ≡ b → bytes_eq (key u) (key v) ≡ false
      by false e = e
      by true e =
          let one : key u ≡ key v = same_name (key u) (key v) e in
          let middle : less u q ≡ false = ap (λ k. is_lt (slice_cmp nat_cmp k (key q))) one ∙ high in
          let neither : less p q ≡ false = order.chain p u q low middle in
          let tied : bytes_eq (key p) (key q) ≡ true =
          sym (tie (key q) (key p)) ∙ (λ i. not (up i) && not (neither i)) in
          absurd (true≢false (sym tied ∙ apart))
