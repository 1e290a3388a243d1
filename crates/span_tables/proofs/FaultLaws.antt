-- `first_fault` returns the fault of the first element that has one, and `all_faults` lists the fault of each element
-- that has one.
use Rattle.std.proofs.Common.{◌≡◌, ℕ, ◌+◌, ◌<◌, List, [], ◌∷◌, ◌++◌, length, Option, Some, None, Ok, refl, sym, ap, ◌∙◌, subst, arith}
use Rattle.std.proofs.lemmas.List.{append_assoc, append-nil, length-append}
use Rattle.std.proofs.lemmas.List.Elements.{Contains-append_left, Contains-append_right}
use Rattle.std.specs.Prelude.{Contains, option_map}
use Rattle.std.specs.List.{AllByRecursion}
use Rattle.std.specs.Option.{option_or, option_to_list}
use Rattle.span_tables.specs.Faults.{faults_after, first_fault_after, first_of, ok_unless}
use Rattle.span_tables.specs.Laws.{IsFaultFree, IsFaultOfSome, IsFirstFault, IsStrictlyRisingBy}

-- a result without a fault has the given value
pub ok_parts : {A F : Type 0} (o : Option F) (x y : A) → ok_unless o x ≡ Ok y → (o ≡ None) × (x ≡ y)
ok_parts None x y e = (refl, cc)
ok_parts (Some f) x y e = cc

-- the first fault of two lists is the first list's, if it has one, and else the second list's
pub first_of_both : {F : Type 0} (xs ys : List F) → first_of (xs ++ ys) ≡ option_or (first_of xs) (first_of ys)
first_of_both [] ys = refl
first_of_both (x ∷ xs) ys = refl

-- the first fault of an optional fault followed by others
pub first_of_option : {F : Type 0} (o : Option F) (ys : List F) → first_of (option_to_list o ++ ys) ≡ option_or o (first_of ys)
first_of_option None ys = refl
first_of_option (Some x) ys = refl

module _ {A F : Type 0} (fault_of : List A → A → Option (ℕ → F)) where
  -- the first fault is the first element's, if it has one, and else the first fault of the remaining elements
  pub first_fault_next : (before : List A) (x : A) (xs : List A) → first_fault_after fault_of before (x ∷ xs)
      ≡ option_or (option_map (λ fault. fault (length before + 1)) (fault_of before x))
      (first_fault_after fault_of (before ++ x ∷ []) xs)
  first_fault_next before x xs = first_of_option (option_map (λ fault. fault (length before + 1)) (fault_of before x))
      (faults_after fault_of (before ++ x ∷ []) xs)

  -- the answer if the first element's own fault is o
  abbrev answer_by : List A → A → List A → Option (ℕ → F) → Option F
  answer_by before x xs o = first_of (option_to_list (option_map (λ fault. fault (length before + 1)) o)
      ++ faults_after fault_of (before ++ x ∷ []) xs)

  head_none : (before : List A) (x : A) (xs : List A) (o : Option (ℕ → F)) → fault_of before x ≡ o
      → answer_by before x xs o ≡ None
      → (fault_of before x ≡ None) × (first_fault_after fault_of (before ++ x ∷ []) xs ≡ None)
  head_none before x xs None is e = (is, e)
  head_none before x xs (Some fault) is e = cc

  -- if there is no answer, no element has a fault
  pub first_fault_none : (before xs : List A) → first_fault_after fault_of before xs ≡ None → IsFaultFree fault_of before xs
  first_fault_none before [] e = tt
  first_fault_none before (x ∷ xs) e =
      let h = head_none before x xs (fault_of before x) refl e in
      (h.0, first_fault_none (before ++ x ∷ []) xs h.1)

  -- if no element has a fault, there is no answer
  pub first_fault_free : (before xs : List A) → IsFaultFree fault_of before xs → first_fault_after fault_of before xs ≡ None
  first_fault_free before [] free = refl
  first_fault_free before (x ∷ xs) free = rw free.0 (first_fault_free (before ++ x ∷ []) xs free.1)

  -- the first fault after an element without a fault is also the first fault with that element in front
  later_fault : (before : List A) (x : A) (xs : List A) (y : F) → fault_of before x ≡ None
      → IsFirstFault fault_of (before ++ x ∷ []) xs y → IsFirstFault fault_of before (x ∷ xs) y
  later_fault before x xs y none f = record {
    earlier = x ∷ f.earlier;
    at = f.at;
    later = f.later;
    split = ap (λ zs. x ∷ zs) f.split;
    none_earlier = (none, f.none_earlier);
    fault = f.fault;
    has = subst (λ zs. fault_of zs f.at ≡ Some f.fault) (append_assoc before (x ∷ []) f.earlier) f.has;
    answers = subst (λ zs. y ≡ f.fault (length zs + 1)) (append_assoc before (x ∷ []) f.earlier) f.answers;
  }

  head_some : (before : List A) (x : A) (xs : List A) (y : F) (o : Option (ℕ → F)) → fault_of before x ≡ o
      → answer_by before x xs o ≡ Some y
      → (first_fault_after fault_of (before ++ x ∷ []) xs ≡ Some y → IsFirstFault fault_of (before ++ x ∷ []) xs y)
      → IsFirstFault fault_of before (x ∷ xs) y
  head_some before x xs y None is e more = later_fault before x xs y is (more e)
  head_some before x xs y (Some fault) is e more = record {
    earlier = [];
    at = x;
    later = xs;
    split = refl;
    none_earlier = tt;
    fault = fault;
    has = subst (λ zs. fault_of zs x ≡ Some fault) (sym (append-nil before)) is;
    answers = subst (λ zs. y ≡ fault (length zs + 1)) (sym (append-nil before)) cc;
  }

  -- an answer is the fault of the first element that has one
  pub first_fault_some : (before xs : List A) (y : F) → first_fault_after fault_of before xs ≡ Some y
      → IsFirstFault fault_of before xs y
  first_fault_some before [] y e = cc
  first_fault_some before (x ∷ xs) y e = head_some before x xs y (fault_of before x) refl e (first_fault_some (before ++ x ∷ []) xs y)

  -- ---- all faults

  -- a fault of a later element is also a fault of the list with one more element in front
  of_later : (before : List A) (x : A) (xs : List A) (y : F) → IsFaultOfSome fault_of (before ++ x ∷ []) xs y
      → IsFaultOfSome fault_of before (x ∷ xs) y
  of_later before x xs y f = record {
    earlier = x ∷ f.earlier;
    at = f.at;
    later = f.later;
    split = ap (λ zs. x ∷ zs) f.split;
    fault = f.fault;
    has = subst (λ zs. fault_of zs f.at ≡ Some f.fault) (append_assoc before (x ∷ []) f.earlier) f.has;
    answers = subst (λ zs. y ≡ f.fault (length zs + 1)) (append_assoc before (x ∷ []) f.earlier) f.answers;
  }

  of_first : (before : List A) (x : A) (xs : List A) (fault : ℕ → F) → fault_of before x ≡ Some fault
      → IsFaultOfSome fault_of before (x ∷ xs) (fault (length before + 1))
  of_first before x xs fault is = record {
    earlier = [];
    at = x;
    later = xs;
    split = refl;
    fault = fault;
    has = subst (λ zs. fault_of zs x ≡ Some fault) (sym (append-nil before)) is;
    answers = subst (λ zs. fault (length before + 1) ≡ fault (length zs + 1)) (sym (append-nil before)) refl;
  }

  pub all_weaker : (P Q : F → Type 0) → ((y : F) → P y → Q y) → (ys : List F) → AllByRecursion P ys → AllByRecursion Q ys
  all_weaker P Q follows [] all = tt
  all_weaker P Q follows (y ∷ ys) all = (follows y all.0, all_weaker P Q follows ys all.1)

  by_own : (P : F → Type 0) (own : Option F) (ys : List F) → ((y : F) → own ≡ Some y → P y) → AllByRecursion P ys
      → AllByRecursion P (option_to_list own ++ ys)
  by_own P None ys here rest = rest
  by_own P (Some y) ys here rest = (here y refl, rest)

  -- an element's own fault
  own_fault : (n : ℕ) (o : Option (ℕ → F)) (y : F) → option_map (λ fault. fault n) o ≡ Some y
      → (fault : ℕ → F) × (o ≡ Some fault) × (fault n ≡ y)
  own_fault n None y e = cc
  own_fault n (Some fault) y e = let same : fault n ≡ y = cc in (fault, refl, same)

  -- each listed fault is the fault of an element
  pub faults_are_of_some : (before xs : List A) → AllByRecursion (IsFaultOfSome fault_of before xs) (faults_after fault_of before xs)
  faults_are_of_some before [] = tt
  faults_are_of_some before (x ∷ xs) =
      by_own (IsFaultOfSome fault_of before (x ∷ xs)) (option_map (λ fault. fault (length before + 1)) (fault_of before x))
      (faults_after fault_of (before ++ x ∷ []) xs)
      (λ y e.
      let own = own_fault (length before + 1) (fault_of before x) y e in
      subst (IsFaultOfSome fault_of before (x ∷ xs)) own.2 (of_first before x xs own.0 own.1))
      (all_weaker _ _ (of_later before x xs) (faults_after fault_of (before ++ x ∷ []) xs) (faults_are_of_some (before ++ x ∷ []) xs))

  -- each element's fault is listed
  each_told : (before earlier : List A) (at : A) (later : List A) (fault : ℕ → F) → fault_of (before ++ earlier) at ≡ Some fault
      → Contains (faults_after fault_of before (earlier ++ at ∷ later)) (fault (length (before ++ earlier) + 1))
  each_told before [] at later fault has =
      let here : fault_of before at ≡ Some fault = subst (λ zs. fault_of zs at ≡ Some fault) (append-nil before) has in
      subst (λ zs. Contains (faults_after fault_of before (at ∷ later)) (fault (length zs + 1))) (sym (append-nil before))
      (subst (λ o. Contains (option_to_list (option_map (λ f. f (length before + 1)) o) ++ faults_after fault_of (before ++ at ∷ []) later)
      (fault (length before + 1)))
      (sym here)
      (Contains-append_left (fault (length before + 1) ∷ []) (faults_after fault_of (before ++ at ∷ []) later)
      (fault (length before + 1)) (0, omega arith, refl)))
  each_told before (x ∷ earlier) at later fault has =
      let assoc = append_assoc before (x ∷ []) earlier in
      Contains-append_right (option_to_list (option_map (λ f. f (length before + 1)) (fault_of before x)))
      (faults_after fault_of (before ++ x ∷ []) (earlier ++ at ∷ later)) (fault (length (before ++ x ∷ earlier) + 1))
      (subst (λ zs. Contains (faults_after fault_of (before ++ x ∷ []) (earlier ++ at ∷ later)) (fault (length zs + 1))) assoc
      (each_told (before ++ x ∷ []) earlier at later fault (subst (λ zs. fault_of zs at ≡ Some fault) (sym assoc) has)))

  pub faults_told : (before xs : List A) (y : F) → IsFaultOfSome fault_of before xs y → Contains (faults_after fault_of before xs) y
  faults_told before xs y f =
      subst (λ zs. Contains (faults_after fault_of before zs) y) (sym f.split)
      (subst (Contains (faults_after fault_of before (f.earlier ++ f.at ∷ f.later))) (sym f.answers)
      (each_told before f.earlier f.at f.later f.fault f.has))

  -- ---- the numbers of the elements that have a fault

  module _ (number : F → ℕ)
      (numbered : (earlier : List A) (x : A) (fault : ℕ → F) (n : ℕ) → fault_of earlier x ≡ Some fault → number (fault n) ≡ n) where
    own_number : (before : List A) (x : A) (y : F) → option_map (λ fault. fault (length before + 1)) (fault_of before x) ≡ Some y
        → number y ≡ length before + 1
    own_number before x y e =
        let own = own_fault (length before + 1) (fault_of before x) y e in
        ap number (sym own.2) ∙ numbered before x own.0 (length before + 1) own.1

    numbers_above : (before xs : List A) → AllByRecursion (λ y. length before < number y) (faults_after fault_of before xs)
    numbers_above before [] = tt
    numbers_above before (x ∷ xs) =
        by_own (λ y. length before < number y) (option_map (λ fault. fault (length before + 1)) (fault_of before x))
        (faults_after fault_of (before ++ x ∷ []) xs)
        (λ y e. let is = own_number before x y e in omega (arith, is))
        (all_weaker (λ y. length (before ++ x ∷ []) < number y) (λ y. length before < number y)
        (λ y lt. let long = length-append before (x ∷ []) in omega (arith, lt, long))
        (faults_after fault_of (before ++ x ∷ []) xs) (numbers_above (before ++ x ∷ []) xs))

    rising_by : (n : ℕ) (own : Option F) (ys : List F) → ((y : F) → own ≡ Some y → number y ≡ n)
        → AllByRecursion (λ y. n < number y) ys → IsStrictlyRisingBy number ys → IsStrictlyRisingBy number (option_to_list own ++ ys)
    rising_by n None ys is above rising = rising
    rising_by n (Some y) ys is above rising = (
      all_weaker (λ z. n < number z) (λ z. number y < number z) (λ z lt. let here = is y refl in omega (arith, lt, here)) ys above,
      rising,
    )

    -- the element numbers of the listed faults rise strictly
    pub numbers_rise : (before xs : List A) → IsStrictlyRisingBy number (faults_after fault_of before xs)
    numbers_rise before [] = tt
    numbers_rise before (x ∷ xs) =
        rising_by (length before + 1) (option_map (λ fault. fault (length before + 1)) (fault_of before x))
        (faults_after fault_of (before ++ x ∷ []) xs) (own_number before x)
        (all_weaker (λ y. length (before ++ x ∷ []) < number y) (λ y. length before + 1 < number y)
        (λ y lt. let long = length-append before (x ∷ []) in omega (arith, lt, long))
        (faults_after fault_of (before ++ x ∷ []) xs) (numbers_above (before ++ x ∷ []) xs))
        (numbers_rise (before ++ x ∷ []) xs)
