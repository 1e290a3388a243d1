-- The faults of a list's elements, in a loop over the elements.
use Rattle.std.proofs.Common.{◌≡◌, ℕ, zero, suc, ◌+◌, ◌<◌, ◌≤◌, List, [], ◌∷◌, ◌++◌, Option, refl, length, take, drop, get_or, ap, ◌∙◌}
use Rattle.std.proofs.Common.{append_assoc, sym, arith}
use Rattle.std.specs.Prelude.{option_map, option_to_list}
use Rattle.std.proofs.lemmas.List.{take_more, drop_more, drop_all, length-take-le}
use Rattle.span_tables.specs.Faults.{all_faults, faults_after}

module _ {A F : Type 0} (fault_of : List A → A → Option (ℕ → F)) (all : List A) where
  -- the faults of the elements from index i on
  abbrev pub faults_from : ℕ → List F
  faults_from i = faults_after fault_of (take i all) (drop i all)

  -- the fault of the element at index i
  abbrev pub fault_at : ℕ → A → List F
  fault_at i x = option_to_list (option_map (λ fault. fault (i + 1)) (fault_of (take i all) x))

  -- the faults of the element at index i, followed by the faults of later elements
  pub faults_from_next : (i : ℕ) (d : A) → i < length all → faults_from i ≡ fault_at i (get_or all i d) ++ faults_from (i + 1)
  faults_from_next i d h =
      ap (faults_after fault_of (take i all)) (drop_more all i d h)
      ∙ ap (λ front. option_to_list (option_map (λ fault. fault (length (take i all) + 1)) (fault_of (take i all) (get_or all i d)))
      ++ faults_after fault_of front (drop (i + 1) all)) (sym (take_more all i d h))
      ∙ ap (λ n. option_to_list (option_map (λ fault. fault (n + 1)) (fault_of (take i all) (get_or all i d))) ++ faults_from (i + 1))
      (length-take-le i all (omega arith))

  -- after the last element there are no faults
  pub faults_from_end : (i : ℕ) → length all ≤ i → faults_from i ≡ []
  faults_from_end i h = ap (faults_after fault_of (take i all)) (drop_all i all h)

  -- the faults reported after one more element
  pub told_next : (told now total : List F) (i : ℕ) (d : A) → i < length all
      → (o : Option (ℕ → F)) → fault_of (take i all) (get_or all i d) ≡ o
      → now ≡ told ++ option_to_list (option_map (λ fault. fault (i + 1)) o) → told ++ faults_from i ≡ total
      → now ++ faults_from (i + 1) ≡ total
  told_next told now total i d h o e is was =
      ap (λ xs. xs ++ faults_from (i + 1)) is
      ∙ append_assoc told (option_to_list (option_map (λ fault. fault (i + 1)) o)) (faults_from (i + 1))
      ∙ ap (λ p. told ++ (option_to_list (option_map (λ fault. fault (i + 1)) p) ++ faults_from (i + 1))) (sym e)
      ∙ ap (λ xs. told ++ xs) (sym (faults_from_next i d h)) ∙ was

-- two fault tests that agree on each element, given the earlier ones, give the same faults
module _ {A F : Type 0} (these those : List A → A → Option (ℕ → F)) (all : List A)
    (same : (i : ℕ) (d : A) → i < length all → these (take i all) (get_or all i d) ≡ those (take i all) (get_or all i d)) where
  same_from : (n i : ℕ) (d : A) → i + n ≡ length all → faults_from these all i ≡ faults_from those all i
  same_from zero i d e =
      let past : length all ≤ i = omega (arith, e) in faults_from_end these all i past ∙ sym (faults_from_end those all i past)
  same_from (suc n) i d e =
      let within : i < length all = omega (arith, e) in
      faults_from_next these all i d within
      ∙ ap (λ o. option_to_list (option_map (λ fault. fault (i + 1)) o) ++ faults_from these all (i + 1)) (same i d within)
      ∙ ap (λ rest. fault_at those all i (get_or all i d) ++ rest) (same_from n (i + 1) d (omega (arith, e)))
      ∙ sym (faults_from_next those all i d within)

  pub all_faults_same : all_faults these all ≡ all_faults those all
  all_faults_same = by all refl
    where
      by : (xs : List A) → all ≡ xs → all_faults these all ≡ all_faults those all
      by [] e = ap (all_faults these) e ∙ sym (ap (all_faults those) e)
      by (x ∷ xs) e = same_from (length all) 0 x (omega arith)
