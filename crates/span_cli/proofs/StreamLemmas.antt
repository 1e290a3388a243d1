-- Names of streams that were kept.
use Rattle.std.proofs.Common.{◌≡◌, ◌≢◌, ◌||◌, ℕ, Bool, true, false, List, [], ◌∷◌, ◌++◌, bytes_eq, refl, sym}
use Rattle.std.proofs.lemmas.List.Folds.{list_any-append}
use Rattle.std.proofs.lemmas.Slice.Eq.{bytes_eq-Decides}
use Rattle.span_tables.specs.Names.{is_among}

or_true : (a b : Bool) → b ≡ true → (a || (b || false)) ≡ true
or_true true b h = refl
or_true false true h = refl
or_true false false h = h

pub kept_name : (names : List (List ℕ)) (name : List ℕ) → is_among (names ++ name ∷ []) name ≡ true
kept_name names name =
    rw (list_any-append (bytes_eq name) names (name ∷ []))
    (or_true (is_among names name) (bytes_eq name name) ((bytes_eq-Decides name name).1 refl))

or_stays : (a b : Bool) → a ≡ true → (a || b) ≡ true
or_stays true b h = refl
or_stays false b h = cc

pub name_stays : (names : List (List ℕ)) (name other : List ℕ) → is_among names name ≡ true
    → is_among (names ++ other ∷ []) name ≡ true
name_stays names name other kept =
    rw (list_any-append (bytes_eq name) names (other ∷ []))
    (or_stays (is_among names name) (bytes_eq name other || false) kept)

pub no_other_name : (names : List (List ℕ)) (name other : List ℕ) → is_among (names ++ other ∷ []) name ≡ true → other ≢ name
    → is_among names name ≡ true
no_other_name names name other kept differs =
    by_tests (is_among names name) (bytes_eq name other) refl
    (rw (list_any-append (bytes_eq name) names (other ∷ [])) at kept) where
      by_tests : (a b : Bool) → bytes_eq name other ≡ b → (a || (b || false)) ≡ true → a ≡ true
      by_tests true b is h = refl
      by_tests false true is h = absurd (differs (sym ((bytes_eq-Decides name other).0 is)))
      by_tests false false is h = h
