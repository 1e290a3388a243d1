-- Lemmas about the first record with a fault, if the fault depends on the record alone.
use Rattle.std.proofs.Common.{◌≡◌, ℕ, ◌+◌, ◌<◌, Bool, true, false, cond, not, ◌||◌, ◌&&◌, List, [], arith, get_or, ltb, take}
use Rattle.std.proofs.Common.{◌∷◌, ◌++◌, length, Option, Some, None, refl, sym, ap, ◌∙◌}
use Rattle.std.specs.Prelude.{option_map, position}
use Rattle.std.specs.Option.{option_or}
use Rattle.std.specs.List.{list_any, position_from}
use Rattle.std.proofs.lemmas.Bool.{true≢false, or_parts, and_right, false_from_ne_true, lt-ltb}
use Rattle.std.proofs.lemmas.Iterator.Adapters.{position_from-zero}
use Rattle.std.proofs.lemmas.List.{get_or-take, length-append, length-take-le}
use Rattle.std.proofs.lemmas.List.Folds.{list_any-append, list_any_at}
use Rattle.std.proofs.lemmas.List.Sums.{position_or_len_is}
use Rattle.span_tables.specs.Faults.{first_fault_after, first_of}
use Rattle.span_tables.proofs.FaultLaws.{first_fault_next}
use Rattle.binding.specs.Binding.{all_unfit_by, first_unfit_by}

none_first : {F : Type 0} (xs : List F) → first_of xs ≡ None → xs ≡ []
none_first [] e = refl
none_first (x ∷ xs) e = cc

module _ {R F : Type 0} (name_of : R → List ℕ) (fault : ℕ → List ℕ → F) where
  fault_if : Bool → R → Option (ℕ → F)
  fault_if b p = cond b (Some (λ at. fault at (name_of p))) None

  after : (unfit : R → Bool) → List R → List R → Option F
  after unfit earlier xs = first_fault_after (λ e p. cond (unfit p) (Some (λ at. fault at (name_of p))) None) earlier xs

  one : (unfit : R → Bool) (b : Bool) (earlier : List R) (p : R) (xs : List R) → unfit p ≡ b
      → after unfit earlier (p ∷ xs) ≡ option_or (option_map (λ f. f (length earlier + 1)) (fault_if b p))
      (after unfit (earlier ++ p ∷ []) xs)
  unfolding after fault_if
  one unfit b earlier p xs e =
      first_fault_next (λ e p. cond (unfit p) (Some (λ at. fault at (name_of p))) None) earlier p xs
      ∙ ap (λ t. option_or (option_map (λ f. f (length earlier + 1)) (fault_if t p)) (after unfit (earlier ++ p ∷ []) xs)) e

  module _ (unfit : R → Bool) where
    none_after : (earlier xs : List R) → list_any unfit xs ≡ false → after unfit earlier xs ≡ None
    unfolding after fault_if
    none_after earlier [] h = refl
    none_after earlier (p ∷ xs) h =
        let parts = or_parts (unfit p) (list_any unfit xs) h in
        one unfit false earlier p xs parts.0 ∙ none_after (earlier ++ p ∷ []) xs parts.1

    -- no record is unfit
    pub unfit_none : (xs : List R) → list_any unfit xs ≡ false → first_unfit_by name_of fault (λ earlier p. unfit p) xs ≡ None
    unfolding after
    unfit_none xs h = none_after [] xs h

    pub none_unfit : (xs : List R) → list_any unfit xs ≡ false → all_unfit_by name_of fault (λ earlier p. unfit p) xs ≡ []
    none_unfit xs h = none_first (all_unfit_by name_of fault (λ earlier p. unfit p) xs) (unfit_none xs h)

    none_back : (earlier xs : List R) → after unfit earlier xs ≡ None → list_any unfit xs ≡ false
    unfolding after fault_if
    none_back earlier [] h = refl
    none_back earlier (p ∷ xs) h = by (unfit p) refl (none_back (earlier ++ p ∷ []) xs)
      where
        by : (b : Bool) → unfit p ≡ b → (after unfit (earlier ++ p ∷ []) xs ≡ None → list_any unfit xs ≡ false)
            → list_any unfit (p ∷ xs) ≡ false
        by true e more = let f : Some (fault (length earlier + 1) (name_of p)) ≡ None = sym (one unfit true earlier p xs e) ∙ h in cc
        by false e more = ap (λ b. b || list_any unfit xs) e ∙ more (sym (one unfit false earlier p xs e) ∙ h)

    -- if there is no fault, no record is unfit
    pub fit_from_none : (xs : List R) → first_unfit_by name_of fault (λ earlier p. unfit p) xs ≡ None → list_any unfit xs ≡ false
    unfolding after
    fit_from_none xs h = none_back [] xs h

  module _ (same : R → R → Bool) (unfit : R → Bool) (alike : (x p : R) → same x p ≡ true → unfit p ≡ true → unfit x ≡ true) where
    firsts : List R → List R → Option F
    firsts earlier xs =
        first_fault_after (λ e p. cond (not (list_any (λ x. same x p) e) && unfit p) (Some (λ at. fault at (name_of p))) None) earlier xs

    none_alike : (earlier : List R) (p : R) → list_any unfit earlier ≡ false → unfit p ≡ true → list_any (λ x. same x p) earlier ≡ false
    none_alike [] p h e = refl
    none_alike (x ∷ earlier) p h e =
        let parts = or_parts (unfit x) (list_any unfit earlier) h in
        let here : same x p ≡ false = false_from_ne_true (same x p) (λ t. true≢false (sym (alike x p t e) ∙ parts.0)) in
        ap (λ b. b || list_any (λ y. same y p) earlier) here ∙ none_alike earlier p parts.1 e

    test_is : (earlier : List R) (p : R) → list_any unfit earlier ≡ false → (b : Bool) → unfit p ≡ b
        → (not (list_any (λ x. same x p) earlier) && unfit p) ≡ b
    test_is earlier p h true e = ap (λ b. not b && unfit p) (none_alike earlier p h e) ∙ e
    test_is earlier p h false e = and_right (not (list_any (λ x. same x p) earlier)) (unfit p) e

    firsts_after : (earlier xs : List R) → list_any unfit earlier ≡ false → firsts earlier xs ≡ after unfit earlier xs
    unfolding firsts after fault_if
    firsts_after earlier [] h = refl
    firsts_after earlier (p ∷ xs) h =
        by (unfit p) refl (λ e. firsts_after (earlier ++ p ∷ []) xs
        (list_any-append unfit earlier (p ∷ []) ∙ ap (λ b. b || (unfit p || false)) h ∙ ap (λ b. b || false) e))
      where
        next : firsts earlier (p ∷ xs) ≡ option_or (option_map (λ f. f (length earlier + 1))
            (fault_if (not (list_any (λ x. same x p) earlier) && unfit p) p)) (firsts (earlier ++ p ∷ []) xs)
        next =
            first_fault_next (λ e p. cond (not (list_any (λ x. same x p) e) && unfit p) (Some (λ at. fault at (name_of p))) None)
            earlier p xs

        by : (b : Bool) → unfit p ≡ b → (unfit p ≡ false
            → firsts (earlier ++ p ∷ []) xs ≡ after unfit (earlier ++ p ∷ []) xs)
            → firsts earlier (p ∷ xs) ≡ after unfit earlier (p ∷ xs)
        by true e more =
            next ∙ ap (λ t. option_or (option_map (λ f. f (length earlier + 1)) (fault_if t p)) (firsts (earlier ++ p ∷ []) xs))
            (test_is earlier p h true e)
            ∙ sym (one unfit true earlier p xs e)
        by false e more =
            next ∙ ap (λ t. option_or (option_map (λ f. f (length earlier + 1)) (fault_if t p)) (firsts (earlier ++ p ∷ []) xs))
            (test_is earlier p h false e)
            ∙ more e ∙ sym (one unfit false earlier p xs e)

    -- the first unfit record is the first of its kind, so earlier records of its kind need no check
    pub first_of_kind : (xs : List R)
        → first_unfit_by name_of fault (λ earlier p. not (list_any (λ x. same x p) earlier) && unfit p) xs
        ≡ first_unfit_by name_of fault (λ earlier p. unfit p) xs
    unfolding firsts after
    first_of_kind xs = firsts_after [] xs refl

-- the first fault, if all records have one name: the fault at the index of the first unfit record
module _ {R F : Type 0} (name : List ℕ) (fault : ℕ → List ℕ → F) (unfit : R → Bool) where
  by_index : (earlier xs : List R) → after (λ (r : R). name) fault unfit earlier xs
      ≡ option_map (λ i. fault (i + 1) name) (position_from unfit (length earlier) xs)
  unfolding after fault_if
  by_index earlier [] = refl
  by_index earlier (p ∷ xs) = by (unfit p) refl (by_index (earlier ++ p ∷ []) xs)
    where
      found : ℕ → Option F
      found n = option_map (λ i. fault (i + 1) name) (position_from unfit n xs)

      by : (b : Bool) → unfit p ≡ b → after (λ (r : R). name) fault unfit (earlier ++ p ∷ []) xs ≡ found (length (earlier ++ p ∷ []))
          → after (λ (r : R). name) fault unfit earlier (p ∷ xs)
          ≡ option_map (λ i. fault (i + 1) name) (cond b (Some (length earlier)) (position_from unfit (length earlier + 1) xs))
      by true e more = one (λ r. name) fault unfit true earlier p xs e
      by false e more = one (λ r. name) fault unfit false earlier p xs e ∙ more ∙ ap found (length-append earlier (p ∷ []))

  pub first_by_index : (xs : List R) → first_unfit_by (λ (r : R). name) fault (λ earlier p. unfit p) xs
      ≡ option_map (λ i. fault (i + 1) name) (position unfit xs)
  unfolding after
  first_by_index xs = by_index [] xs ∙ ap (option_map (λ i. fault (i + 1) name)) (sym (position_from-zero unfit xs))

-- the index of the first element that passes a test
pub position_at : {X : Type 0} (test : X → Bool) (xs : List X) (i : ℕ) (d : X) → i < length xs → list_any test (take i xs) ≡ false
    → test (get_or xs i d) ≡ true → position test xs ≡ Some i
position_at test xs i d lt none here =
    let before = λ (k : ℕ) (less : k < i). false_from_ne_true (test (get_or xs k d)) (λ t.
    let size = length-take-le i xs (omega (arith, lt)) in
    true≢false (sym (list_any_at test (take i xs) k d (omega (arith, less, size)) (ap test (get_or-take i xs k d less) ∙ t)) ∙ none)) in
    ap (λ n. cond (ltb n (length xs)) (Some n) None) (position_or_len_is test xs i d (omega (arith, lt)) before (λ l. here))
    ∙ ap (λ b. cond b (Some i) None) (lt-ltb i (length xs) lt)

-- no element passes a test
pub position_nowhere : {X : Type 0} (test : X → Bool) → ((x : X) → test x ≡ false) → (xs : List X) → position test xs ≡ None
position_nowhere {X = X} test none xs = position_from-zero test xs ∙ by 0 xs
  where
    by : (n : ℕ) (ys : List X) → position_from test n ys ≡ None
    by n [] = refl
    by n (y ∷ ys) = ap (λ b. cond b (Some n) (position_from test (n + 1) ys)) (none y) ∙ by (n + 1) ys
