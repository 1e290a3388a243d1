-- Distinct names, when one more name is appended.
use Rattle.std.proofs.Common.{◌≡◌, refl, sym, ap, subst, inl, inr, true, false, not, ◌||◌, ℕ, List, [], ◌∷◌, ◌++◌}
use Rattle.std.specs.Prelude.{filter, bytes_eq, if◌then◌else◌}
use Rattle.std.proofs.lemmas.Bool.{cases_Bool}
use Rattle.std.proofs.lemmas.List.{append-nil}
use Rattle.std.proofs.lemmas.List.Elements.{filter-append}
use Rattle.std.proofs.lemmas.Slice.Eq.{bytes_eq-Decides}
use Rattle.span_tables.specs.Names.{is_among, distinct}

-- names whose bytes are equal are equal
pub same_name : (a b : List ℕ) → bytes_eq a b ≡ true → a ≡ b
same_name a b e = (bytes_eq-Decides a b).0 e

-- removing all names equal to `gone` does not change whether another name is in the list
pub among_others : (gone a : List ℕ) (names : List (List ℕ)) → bytes_eq a gone ≡ false
    → is_among (filter (λ other. not (bytes_eq other gone)) names) a ≡ is_among names a
among_others gone a [] apart = refl
among_others gone a (x ∷ names) apart =
    elim (cases_Bool (bytes_eq x gone)) [
      | inl same ↦
          let other : bytes_eq a x ≡ false = subst (λ n. bytes_eq a n ≡ false) (sym (same_name x gone same)) apart in
          rw (same, other) (among_others gone a names apart)
      | inr kept ↦ rw kept (ap (λ b. bytes_eq a x || b) (among_others gone a names apart))
    ]

-- a name is among the distinct names if and only if it is among all names
pub is_among-distinct : (names : List (List ℕ)) (a : List ℕ) → is_among (distinct names) a ≡ is_among names a
is_among-distinct [] a = refl
is_among-distinct (n ∷ names) a =
    elim (cases_Bool (bytes_eq a n)) [
      | inl same ↦ rw same refl
      | inr apart ↦ rw (apart, among_others n a (distinct names) apart) (is_among-distinct names a)
    ]

-- one more name is added to the distinct names only if it is new
pub distinct-push : (names : List (List ℕ)) (a : List ℕ)
    → distinct (names ++ a ∷ []) ≡ (if is_among names a then distinct names else distinct names ++ a ∷ [])
distinct-push [] a = refl
distinct-push (n ∷ names) a =
    elim (cases_Bool (bytes_eq a n)) [
      | inl same ↦
          elim (cases_Bool (is_among names a)) [
            | inl old ↦ rw (distinct-push names a, same, old) refl
            | inr new ↦
                rw (distinct-push names a, new, filter-append (λ other. not (bytes_eq other n)) (distinct names) (a ∷ []), same)
                (ap (λ rest. n ∷ rest) (append-nil (filter (λ other. not (bytes_eq other n)) (distinct names))))
          ]
      | inr apart ↦
          elim (cases_Bool (is_among names a)) [
            | inl old ↦ rw (distinct-push names a, apart, old) refl
            | inr new ↦ rw (
              distinct-push names a,
              apart,
              new,
              filter-append (λ other. not (bytes_eq other n)) (distinct names) (a ∷ []),
              apart,
            ) refl
          ]
    ]
