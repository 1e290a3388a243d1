-- Lemmas about distinct accounts and the entries gathered for each.
use Rattle.std.proofs.Common.{◌≡◌, ℕ, zero, suc, ◌+◌, ◌<◌, ◌≤◌, ◌⊎◌, Bool, true, false, cond, not}
use Rattle.std.proofs.Common.{List, [], ◌∷◌, ◌++◌, length, get_or, set, filter, map, take, drop, Some, None}
use Rattle.std.proofs.Common.{ltb, position, slice_get, refl, sym, ap, subst, ◌∙◌, inl, inr, arith, length-drop}
use Rattle.std.specs.Prelude.{bytes_eq}
use Rattle.std.specs.List.{list_any, position_or_len}
use Rattle.std.proofs.lemmas.Bool.{cases_Bool, cases_eq, false_from_ne_true, true≢false, or_parts, lt-ltb}
use Rattle.std.proofs.lemmas.List.{append-nil, ext_get_or, get_or-drop, get_or-map, get_or-set_other, get_or-set_same, get_or-take}
use Rattle.std.proofs.lemmas.List.{length-map, length-set, length-take-le, map-append}
use Rattle.std.proofs.lemmas.List.Elements.{filter-append}
use Rattle.std.proofs.lemmas.Map.Keys.{any_passes_from_place}
use Rattle.std.proofs.lemmas.Option.{slice_get-get_or, slice_get_within}
use Rattle.std.proofs.lemmas.Slice.Eq.{bytes_eq-Decides}
use Rattle.span_tables.specs.Names.{has_repeat}
use Rattle.span_tables.specs.declared.records.PositionRecord.{PositionRecord}
use Rattle.span_tables.proofs.NameLemmas.{same_name}
use Rattle.binding.specs.near.Nets.{entry_of, entries_of}
use Rattle.binding.specs.declared.ledgers.Entry.{Entry}

-- ---- names

pub bytes_eq-refl : (a : List ℕ) → bytes_eq a a ≡ true
bytes_eq-refl a = (bytes_eq-Decides a a).1 refl

pub bytes_eq-flip : (a b : List ℕ) → bytes_eq a b ≡ bytes_eq b a
bytes_eq-flip a b = by (cases_Bool (bytes_eq a b)) (cases_Bool (bytes_eq b a))
  where
    by : (bytes_eq a b ≡ true) ⊎ (bytes_eq a b ≡ false) → (bytes_eq b a ≡ true) ⊎ (bytes_eq b a ≡ false)
        → bytes_eq a b ≡ bytes_eq b a
    by (inl x) (inl y) = x ∙ sym y
    by (inl x) (inr y) = absurd (true≢false (sym (bytes_eq-refl b) ∙ ap (bytes_eq b) (sym (same_name a b x)) ∙ y))
    by (inr x) (inl y) = absurd (true≢false (sym (bytes_eq-refl a) ∙ ap (bytes_eq a) (sym (same_name b a y)) ∙ x))
    by (inr x) (inr y) = x ∙ sym y

-- a name that is in a list differs from a name that is not
not_before : (k : List ℕ) (ks : List (List ℕ)) (a : ℕ) (name : List ℕ) → list_any (bytes_eq k) ks ≡ false
    → slice_get ks a ≡ Some name → bytes_eq name k ≡ false
not_before k ks a name none at =
    elim (cases_Bool (bytes_eq name k)) [
      | inl same ↦
          let there : list_any (bytes_eq name) ks ≡ true = any_passes_from_place (bytes_eq name) ks a name at (bytes_eq-refl name) in
          absurd (true≢false (sym there ∙ subst (λ z. list_any (bytes_eq z) ks ≡ false) (sym (same_name name k same)) none))
      | inr apart ↦ apart
    ]

-- in a list without repeats a name is first found at its own index
first_place : (ks : List (List ℕ)) (a : ℕ) (name : List ℕ) → has_repeat bytes_eq ks ≡ false → slice_get ks a ≡ Some name
    → position_or_len (bytes_eq name) ks ≡ a
first_place [] a name apart at = cc
first_place (k ∷ ks) zero name apart at =
    let same : k ≡ name = cc in
    let here : bytes_eq name k ≡ true = ap (bytes_eq name) same ∙ bytes_eq-refl name in
    ap (λ b. cond (not b) (1 + position_or_len (bytes_eq name) ks) 0) here
first_place (k ∷ ks) (suc a) name apart at =
    let parts = or_parts (list_any (bytes_eq k) ks) (has_repeat bytes_eq ks) apart in
    let rest = first_place ks a name parts.1 at in
    ap (λ b. cond (not b) (1 + position_or_len (bytes_eq name) ks) 0) (not_before k ks a name parts.0 at) ∙ omega (arith, rest)

pub place_is : (ks : List (List ℕ)) (a : ℕ) (name : List ℕ) → has_repeat bytes_eq ks ≡ false → slice_get ks a ≡ Some name
    → position (bytes_eq name) ks ≡ Some a
place_is ks a name apart at =
    ap (λ n. cond (ltb n (length ks)) (Some n) None) (first_place ks a name apart at)
    ∙ ap (λ b. cond b (Some a) None) (lt-ltb a (length ks) (slice_get_within ks a name at))

-- ---- the entries gathered for a range of accounts

-- the range has c accounts
pub some_long : (ks : List (List ℕ)) (f c : ℕ) → f + c ≤ length ks → length (take c (drop f ks)) ≡ c
some_long ks f c within = let size = length-drop f ks in length-take-le c (drop f ks) (omega (arith, within, size))

module _ (ks : List (List ℕ)) (alone : has_repeat bytes_eq ks ≡ false) (f c : ℕ) (within : f + c ≤ length ks) where
  abbrev some : List (List ℕ)
  some = take c (drop f ks)

  long : length some ≡ c
  long = some_long ks f c within

  gathered_at : (g : List ℕ → List Entry) (k : ℕ) → k < c → get_or (map g some) k [] ≡ g (get_or ks (f + k) [])
  gathered_at g k lt =
      get_or-map g some k [] [] (omega (arith, lt, long)) ∙ ap g (get_or-take c (drop f ks) k [] lt ∙ get_or-drop f ks k [])

  -- the names at two indexes are different
  apart_at : (a b : ℕ) → a < length ks → b < length ks → (a ≡ b → ⊥) → bytes_eq (get_or ks a []) (get_or ks b []) ≡ false
  apart_at a b la lb other =
      false_from_ne_true (bytes_eq (get_or ks a []) (get_or ks b [])) (λ t.
      other (sym (place a la) ∙ ap (λ n. position_or_len (bytes_eq n) ks) (same_name (get_or ks a []) (get_or ks b []) t) ∙ place b lb))
    where
      place : (n : ℕ) → n < length ks → position_or_len (bytes_eq (get_or ks n [])) ks ≡ n
      place n lt = first_place ks n (get_or ks n []) alone (slice_get-get_or ks n [] lt)

  module _ (g next : List ℕ → List Entry) (a : ℕ) (e : Entry) (known : a < length ks)
      (grows : (b : List ℕ) → next b ≡ cond (bytes_eq (get_or ks a []) b) (g b ++ e ∷ []) (g b)) where
    stays : (k : ℕ) → k < c → (a ≡ f + k → ⊥) → g (get_or ks (f + k) []) ≡ next (get_or ks (f + k) [])
    stays k lt other =
        let name = get_or ks (f + k) [] in
        sym (grows name ∙ ap (λ t. cond t (g name ++ e ∷ []) (g name)) (apart_at a (f + k) known (omega (arith, lt, within)) other))

    -- an entry of an account outside the range
    pub left_out : ((k : ℕ) → k < c → a ≡ f + k → ⊥) → map g some ≡ map next some
    left_out other =
        ext_get_or [] (map g some) (map next some) (length-map some g ∙ sym (length-map some next)) (λ k lt.
        let size = length-map some g in
        let less : k < c = omega (arith, lt, size, long) in
        gathered_at g k less ∙ stays k less (other k less) ∙ sym (gathered_at next k less))

    -- an entry of the account at index j of the range
    pub entered : (j : ℕ) → j < c → a ≡ f + j → set (map g some) j (get_or (map g some) j [] ++ e ∷ []) ≡ map next some
    entered j lj is =
        ext_get_or [] now (map next some) (size ∙ sym (length-map some next)) (λ k lt.
        let less : k < c = omega (arith, lt, size, long) in by k less (cases_eq k j))
      where
        now : List (List Entry)
        now = set (map g some) j (get_or (map g some) j [] ++ e ∷ [])

        size : length now ≡ length some
        size = length-set (map g some) j (get_or (map g some) j [] ++ e ∷ []) ∙ length-map some g

        name : List ℕ
        name = get_or ks (f + j) []

        by : (k : ℕ) → k < c → (k ≡ j) ⊎ (k ≡ j → ⊥) → get_or now k [] ≡ get_or (map next some) k []
        by k less (inl same) =
            let many = length-map some g in
            ap (λ n. get_or now n []) same
            ∙ get_or-set_same (map g some) j (get_or (map g some) j [] ++ e ∷ []) [] (omega (arith, lj, many, long))
            ∙ ap (λ xs. xs ++ e ∷ []) (gathered_at g j lj)
            ∙ sym (grows name ∙ ap (λ t. cond t (g name ++ e ∷ []) (g name))
            (ap (λ n. bytes_eq (get_or ks n []) name) is ∙ bytes_eq-refl name))
            ∙ sym (gathered_at next j lj) ∙ ap (λ n. get_or (map next some) n []) (sym same)
        by k less (inr other) =
            get_or-set_other (map g some) j k (get_or (map g some) j [] ++ e ∷ []) [] other ∙ gathered_at g k less
            ∙ stays k less (λ q. other (omega (arith, q, is))) ∙ sym (gathered_at next k less)

module _ (ids : List (List ℕ)) (front : List PositionRecord) (p : PositionRecord) where
  -- the entries of an account after one more record
  pub entries_push : (b : List ℕ) → entries_of ids (front ++ p ∷ []) b
      ≡ cond (bytes_eq p.account b) (entries_of ids front b ++ entry_of ids p ∷ []) (entries_of ids front b)
  entries_push b = ap (map (entry_of ids)) (filter-append of_account front (p ∷ [])) ∙ by (bytes_eq p.account b)
    where
      of_account : PositionRecord → Bool
      of_account q = bytes_eq q.account b

      by : (t : Bool) → map (entry_of ids) (filter of_account front ++ cond t (p ∷ []) [])
          ≡ cond t (map (entry_of ids) (filter of_account front) ++ entry_of ids p ∷ []) (map (entry_of ids) (filter of_account front))
      by true = map-append (entry_of ids) (filter of_account front) (p ∷ [])
      by false = ap (map (entry_of ids)) (append-nil (filter of_account front))
