-- The index of a name in a list of distinct names.
use Rattle.std.proofs.Common.{◌≡◌, ℕ, suc, zero, ◌+◌, ◌<◌, Bool, true, false, cond, not, List, [], ◌∷◌}
use Rattle.std.proofs.Common.{length, refl, sym, ap, ◌∙◌, arith, get_or, eqb, ltb, ◌≤◌, Decides}
use Rattle.std.specs.Prelude.{Option, Some, None, bytes_eq, unwrap_or, option_map, slice_get}
use Rattle.std.specs.List.{position, position_or_len, list_any}
use Rattle.std.proofs.lemmas.List.Sums.{prefix_len-le-length, passes_at_first}
use Rattle.std.proofs.lemmas.Bool.Decides.{same_from_decides, Decides-eqb, nat_tests}
use Rattle.std.proofs.lemmas.Slice.Eq.{bytes_eq-Decides}
use Rattle.span_tables.specs.Names.{has_repeat}
use Rattle.std.proofs.lemmas.Bool.{or_parts}

-- a name equals itself
pub same_name : (name : List ℕ) → bytes_eq name name ≡ true
same_name name = (bytes_eq-Decides name name).1 refl

module _ {C : Type 0} (key : C → List ℕ) where
  -- the index of the first element that has a name
  abbrev pub place : List C → List ℕ → ℕ
  place cs id = position_or_len (λ c. bytes_eq (key c) id) cs

  -- the element at a name's index has that name
  pub place_key : (cs : List C) (id : List ℕ) (d : C) → place cs id < length cs → key (get_or cs (place cs id) d) ≡ id
  place_key cs id d lt = (bytes_eq-Decides _ id).0 (passes_at_first (λ c. bytes_eq (key c) id) cs d lt)

  -- no later element has the name of the first
  not_later : (name : List ℕ) (cs : List C) (k : ℕ) (d : C) → list_any (λ c. bytes_eq name (key c)) cs ≡ false → k < length cs
      → bytes_eq name (key (get_or cs k d)) ≡ false
  not_later name [] k d none lt = absurd (omega arith)
  not_later name (c ∷ cs) zero d none lt = (or_parts _ _ none).0
  not_later name (c ∷ cs) (suc k) d none lt = not_later name cs k d (or_parts _ _ none).1 (omega arith)

  -- the index of the name at k is k
  pub place_at : (cs : List C) (k : ℕ) (d : C) → has_repeat (λ x y. bytes_eq (key x) (key y)) cs ≡ false → k < length cs
      → place cs (key (get_or cs k d)) ≡ k
  place_at [] k d apart lt = absurd (omega arith)
  place_at (c ∷ cs) zero d apart lt = rw (same_name (key c)) refl
  place_at (c ∷ cs) (suc k) d apart lt =
      let no = not_later (key c) cs k d (or_parts _ _ apart).0 (omega arith) in
      let more : place cs (key (get_or cs k d)) ≡ k =
      place_at cs k d (or_parts (list_any (λ y. bytes_eq (key c) (key y)) cs) _ apart).1 (omega arith) in
      let next : 1 + place cs (key (get_or cs k d)) ≡ suc k = omega (arith, more) in
      rw no next

  -- a name's index is k if and only if it is the name at k
  pub place_tells : (cs : List C) (id : List ℕ) (k : ℕ) (d : C) → has_repeat (λ x y. bytes_eq (key x) (key y)) cs ≡ false
      → k < length cs
      → eqb (place cs id) k ≡ bytes_eq id (key (get_or cs k d))
  place_tells cs id k d apart lt =
      let by_place : Decides (eqb (place cs id) k) (id ≡ key (get_or cs k d)) = (
        (λ e. let is : place cs id ≡ k = (Decides-eqb (place cs id) k).0 e in
            let lt : place cs id < length cs = omega arith in
            sym (place_key cs id d lt) ∙ ap (λ n. key (get_or cs n d)) is),
        (λ e. (Decides-eqb (place cs id) k).1 (ap (place cs) e ∙ place_at cs k d apart lt)),
      ) in same_from_decides _ _ by_place (bytes_eq-Decides id (key (get_or cs k d)))

  -- the name at k, read through the element at k
  pub name_at : (cs : List C) (k : ℕ) (d : C) → k < length cs → unwrap_or (option_map key (slice_get cs k)) [] ≡ key (get_or cs k d)
  name_at [] k d lt = absurd (omega arith)
  name_at (c ∷ cs) zero d lt = refl
  name_at (c ∷ cs) (suc k) d lt = name_at cs k d (omega arith)

  -- the same, with the name at k read through the element
  pub place_names : (cs : List C) (id : List ℕ) (k : ℕ) → has_repeat (λ x y. bytes_eq (key x) (key y)) cs ≡ false → k < length cs
      → eqb (place cs id) k ≡ bytes_eq id (unwrap_or (option_map key (slice_get cs k)) [])
  place_names [] id k apart lt = absurd (omega arith)
  place_names (c ∷ cs) id k apart lt = place_tells (c ∷ cs) id k c apart lt ∙ ap (bytes_eq id) (sym (name_at (c ∷ cs) k c lt))

position_step : (b : Bool) (n m : ℕ) → (ltb n m ≡ b) → n ≤ m → unwrap_or (cond b (Some n) None) m ≡ n
position_step true n m e le = refl
position_step false n m e le = grind (arith, nat_tests)

-- the index found, or the length of the list if there is none
pub position_or_length : {C : Type 0} (p : C → Bool) (cs : List C) (r : Option ℕ) → r ≡ position p cs
    → unwrap_or r (length cs) ≡ position_or_len p cs
position_or_length p cs r is =
    ap (λ o. unwrap_or o (length cs)) is ∙ position_step (ltb (position_or_len p cs) (length cs)) (position_or_len p cs) (length cs) refl
    (prefix_len-le-length (λ x. not (p x)) cs)
