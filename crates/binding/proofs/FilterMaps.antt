-- Lists filtered by an optional value of each element.
use Rattle.std.proofs.Common.{◌≡◌, Bool, List, [], ◌∷◌, ◌++◌, Option, Some, None, refl, sym, ap, ◌∙◌}
use Rattle.std.specs.Prelude.{filter_map, map, option_to_list}
use Rattle.std.specs.List.{list_any}
use Rattle.std.proofs.lemmas.List.Elements.{filter_map-append}
use Rattle.span_tables.specs.Rules.{is_and}

module _ {X A : Type 0} (h : X → Option A) where
  one : (o : Option A) (x : X) → h x ≡ o → filter_map h (x ∷ []) ≡ option_to_list o
  one None x e = rw e refl
  one (Some a) x e = rw e refl

  -- the filtered list after one more element
  pub filter_map_more : (xs : List X) (x : X) → filter_map h xs ++ option_to_list (h x) ≡ filter_map h (xs ++ x ∷ [])
  filter_map_more xs x = sym (filter_map-append h xs (x ∷ []) ∙ ap (λ zs. filter_map h xs ++ zs) (one (h x) x refl))

  any_by : (p : A → Bool) (x : X) (xs : List X) (o : Option A) → h x ≡ o
      → list_any p (filter_map h xs) ≡ list_any (λ y. is_and (h y) p) xs
      → list_any p (filter_map h (x ∷ xs)) ≡ list_any (λ y. is_and (h y) p) (x ∷ xs)
  any_by p x xs None e more = rw e more
  any_by p x xs (Some a) e more = rw (e, more) refl

  -- a test of the values of the filtered list, as a test of the elements
  pub list_any-filter_map : (p : A → Bool) (xs : List X) → list_any p (filter_map h xs) ≡ list_any (λ x. is_and (h x) p) xs
  list_any-filter_map p [] = refl
  list_any-filter_map p (x ∷ xs) = any_by p x xs (h x) refl (list_any-filter_map p xs)

-- tests that agree on each element
pub list_any-same : {X : Type 0} (p q : X → Bool) → ((x : X) → p x ≡ q x) → (xs : List X) → list_any p xs ≡ list_any q xs
list_any-same p q same [] = refl
list_any-same p q same (x ∷ xs) = rw (same x) (rw (list_any-same p q same xs) refl)

-- a test of the values of a function, as a test of its arguments
pub list_any-map : {X Y : Type 0} (p : Y → Bool) (h : X → Y) (xs : List X) → list_any p (map h xs) ≡ list_any (λ x. p (h x)) xs
list_any-map p h [] = refl
list_any-map p h (x ∷ xs) = rw (list_any-map p h xs) refl
