-- The records of a list that pass a test, if all of them pass.
use Rattle.std.proofs.Common.{◌≡◌, ℕ, ◌<◌, Bool, true, false, not, ◌&&◌, List, [], ◌∷◌, filter, length, get_or, take, drop}
use Rattle.std.proofs.Common.{Some, None, refl, sym, ap, ◌∙◌}
use Rattle.std.specs.Prelude.{if◌then◌else◌}
use Rattle.std.specs.List.{list_any}
use Rattle.std.proofs.lemmas.Bool.{or_parts, not-false, true≢false, false_from_ne_true}
use Rattle.std.proofs.lemmas.List.{take-append-drop}
use Rattle.std.proofs.lemmas.List.Folds.{list_any-append, list_any_at}
use Rattle.binding.specs.Binding.{all_unfit_by}
use Rattle.binding.proofs.AllFaults.{all_faults_same}

-- if each element passes a test, the filtered list is the whole list
pub all_pass : {X : Type 0} (test : X → Bool) (xs : List X) → list_any (λ x. not (test x)) xs ≡ false → filter test xs ≡ xs
all_pass test [] h = refl
all_pass test (x ∷ xs) h =
    let parts = or_parts (not (test x)) (list_any (λ y. not (test y)) xs) h in
    ap (λ (b : Bool). if b then x ∷ filter test xs else filter test xs) (not-false (test x) parts.0)
    ∙ ap (λ ys. x ∷ ys) (all_pass test xs parts.1)

module _ {R F : Type 0} (name_of : R → List ℕ) (fault : ℕ → List ℕ → F) (known : R → Bool) (records : List R)
    (all : list_any (λ r. not (known r)) records ≡ false) where
  -- the elements before index i all pass
  known_before : (i : ℕ) → filter known (take i records) ≡ take i records
  known_before i =
      all_pass known (take i records)
      (or_parts (list_any (λ r. not (known r)) (take i records)) (list_any (λ r. not (known r)) (drop i records))
      (sym (list_any-append (λ r. not (known r)) (take i records) (drop i records))
      ∙ ap (list_any (λ r. not (known r))) (take-append-drop i records) ∙ all)).0

  known_here : (i : ℕ) (d : R) → i < length records → known (get_or records i d) ≡ true
  known_here i d lt =
      not-false (known (get_or records i d))
      (false_from_ne_true (not (known (get_or records i d)))
      (λ e. true≢false (sym (list_any_at (λ r. not (known r)) records i d lt e) ∙ all)))

  -- a test among the elements that pass is the same test among all elements
  pub among_all : (test : List R → R → Bool)
      → all_unfit_by name_of fault (λ earlier r. known r && test (filter known earlier) r) records
      ≡ all_unfit_by name_of fault test records
  among_all test =
      all_faults_same
      (λ (earlier : List R) (r : R). if known r && test (filter known earlier) r then Some (λ at. fault at (name_of r)) else None)
      (λ (earlier : List R) (r : R). if test earlier r then Some (λ at. fault at (name_of r)) else None)
      records (λ i d lt k. let r = get_or records i d in
      if known_here i d lt k && test (known_before i k) r then Some (λ at. fault at (name_of r)) else None)
