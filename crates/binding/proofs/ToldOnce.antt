-- Two ways to report one record of each kind: among the records that exceed a limit, or among the records of known
-- contracts.
use Rattle.std.proofs.Common.{◌≡◌, ℕ, suc, ◌<◌, Bool, true, false, cond, not, ◌||◌, ◌&&◌, List, [], ◌∷◌, length, get_or}
use Rattle.std.proofs.Common.{filter, take, Some, None, refl, sym, ap, ◌∙◌, arith}
use Rattle.std.specs.Prelude.{if◌then◌else◌}
use Rattle.std.specs.List.{list_any}
use Rattle.std.proofs.lemmas.Bool.{and_right}
use Rattle.std.proofs.lemmas.List.{get_or-take, length-take-le}
use Rattle.span_tables.specs.declared.records.PositionRecord.{PositionRecord}
use Rattle.binding.specs.Binding.{all_unfit}
use Rattle.binding.specs.declared.faults.BindFault.{BindFault}
use Rattle.binding.proofs.AllFaults.{all_faults_same}

-- tests that agree on each element of a list
pub list_any-same_at : {X : Type 0} (p q : X → Bool) (xs : List X)
    → ((k : ℕ) (d : X) → k < length xs → p (get_or xs k d) ≡ q (get_or xs k d)) → list_any p xs ≡ list_any q xs
list_any-same_at p q [] h = refl
list_any-same_at p q (x ∷ xs) h =
    let here : p x ≡ q x = h 0 x (omega arith) in
    let rest = list_any-same_at p q xs (λ k d lt. h (suc k) d (omega (arith, lt))) in
    λ i. here i || rest i

-- a test of the elements that pass another test
pub list_any-filter : {X : Type 0} (p q : X → Bool) (xs : List X) → list_any p (filter q xs) ≡ list_any (λ x. q x && p x) xs
list_any-filter p q [] = refl
list_any-filter p q (x ∷ xs) = by (q x) (list_any-filter p q xs)
  where
    by : (b : Bool) → list_any p (filter q xs) ≡ list_any (λ y. q y && p y) xs
        → list_any p (cond b (x ∷ filter q xs) (filter q xs)) ≡ (b && p x) || list_any (λ y. q y && p y) xs
    by true more = ap (λ b. p x || b) more
    by false more = more

-- An element exceeds if it is known and over. If one of two elements of the same kind is over, both are. Then two rules
-- report the same elements: the first of each kind that exceeds, and the first of each kind that is known, if it is
-- over.
module _ (fault : ℕ → List ℕ → BindFault) (known over exceeds : PositionRecord → Bool) (same : PositionRecord → PositionRecord → Bool)
    (alike : (x p : PositionRecord) → same x p ≡ true → over p ≡ true → over x ≡ true) (all : List PositionRecord)
    (is : (k : ℕ) (d : PositionRecord) → k < length all
    → exceeds (get_or all k d) ≡ known (get_or all k d) && over (get_or all k d)) where
  -- both rules agree about an earlier record
  one : (p x : PositionRecord) → over p ≡ true → (same x p && (known x && over x)) ≡ (known x && same x p)
  one p x e = by (same x p) refl
    where
      by : (b : Bool) → same x p ≡ b → (b && (known x && over x)) ≡ (known x && b)
      by true t = ap (λ o. known x && o) (alike x p t e)
      by false t = sym (and_right (known x) false refl)

  earlier_is : (i : ℕ) (p : PositionRecord) → i < length all → over p ≡ true
      → list_any (λ x. same x p && exceeds x) (take i all) ≡ list_any (λ x. same x p) (filter known (take i all))
  earlier_is i p lt e =
      list_any-same_at (λ x. same x p && exceeds x) (λ x. known x && same x p) (take i all)
      (λ k d h.
      let short = length-take-le i all (omega (arith, lt)) in
      let at = get_or-take i all k d (omega (arith, h, short)) in
      let x = get_or all k d in
      ap (λ y. same y p && exceeds y) at ∙ ap (λ b. same x p && b) (is k d (omega (arith, h, short, lt))) ∙ one p x e
      ∙ sym (ap (λ y. known y && same y p) at))
      ∙ sym (list_any-filter (λ x. same x p) known (take i all))

  test_is : (i : ℕ) (d : PositionRecord) → i < length all
      → (not (list_any (λ x. same x (get_or all i d) && exceeds x) (take i all)) && exceeds (get_or all i d))
      ≡ (known (get_or all i d) && (not (list_any (λ x. same x (get_or all i d)) (filter known (take i all))) && over (get_or all i d)))
  test_is i d lt = by (known (get_or all i d)) (over (get_or all i d)) refl (is i d lt)
    where
      p : PositionRecord
      p = get_or all i d

      before : Bool
      before = list_any (λ x. same x p && exceeds x) (take i all)

      first : Bool
      first = list_any (λ x. same x p) (filter known (take i all))

      by : (k o : Bool) → over p ≡ o → exceeds p ≡ (k && o) → (not before && exceeds p) ≡ (k && (not first && o))
      by true true e h = ap (λ b. not before && b) h ∙ ap (λ b. not b && true) (earlier_is i p lt e)
      by true false e h = ap (λ b. not before && b) h ∙ and_right (not before) false refl ∙ sym (and_right (not first) false refl)
      by false o e h = ap (λ b. not before && b) h ∙ and_right (not before) false refl

  pub told_once : all_unfit fault (λ earlier p. not (list_any (λ x. same x p && exceeds x) earlier) && exceeds p) all
      ≡ all_unfit fault (λ earlier p. known p && (not (list_any (λ x. same x p) (filter known earlier)) && over p)) all
  told_once =
      all_faults_same
      (λ (earlier : List PositionRecord) (p : PositionRecord).
      if not (list_any (λ x. same x p && exceeds x) earlier) && exceeds p then Some (λ at. fault at p.account) else None)
      (λ (earlier : List PositionRecord) (p : PositionRecord).
      if known p && (not (list_any (λ x. same x p) (filter known earlier)) && over p) then Some (λ at. fault at p.account) else None)
      all (λ i d lt k. if test_is i d lt k then Some (λ at. fault at (get_or all i d).account) else None)
