-- The users of steps.
use Rattle.std.proofs.Common.{◌≡◌, ℕ, zero, suc, ◌+◌, ◌<◌, Bool, true, false, cond, List, [], ◌∷◌, ◌++◌, length, take}
use Rattle.std.proofs.Common.{slice_index_or, slice_set, refl, sym, ap, ◌∙◌, arith, ◌⊎◌, inl, inr}
use Rattle.std.specs.Prelude.{◌==◌, All, replicate}
use Rattle.std.specs.List.{list_any, range_with_len}
use Rattle.std.proofs.lemmas.List.{append-nil, get_or-set_same, get_or-set_other, length-set, length-map}
use Rattle.std.proofs.lemmas.List.{length-take-le, ext_get_or, take_more, get_or-replicate, length-replicate}
use Rattle.std.proofs.lemmas.List.FromFn.{get_or-map-range_with_len, length-range_with_len}
use Rattle.std.proofs.lemmas.List.Elements.{All-tail}
use Rattle.std.proofs.lemmas.Bool.{cases_eq, eq-eqb, ne_eqb, or_parts}
use Rattle.span_tables.specs.Names.{has_repeat}
use Rattle.plan_ir.specs.Plans.{is_step_among, places_from, steps_with, inputs_in, op_at, inputs_at, ops_in}
use Rattle.plan_ir.specs.declared.ops.Op.{Op}
use Rattle.plan_ir.specs.near.Noting.{noted, places_of_all}

-- the operation and the inputs of a step
pub op_is : (ops : List Op) (lists : List (List ℕ)) (k : ℕ) (d : Op) → length lists ≡ length ops → k < length ops
    → slice_index_or ops k d ≡ op_at (steps_with ops lists) k
op_is [] lists k d e lt = elim lt [ ]
op_is (o ∷ ops) [] k d e lt = let no : ⊥ = omega (arith, e) in elim no [ ]
op_is (o ∷ ops) (x ∷ lists) zero d e lt = refl
op_is (o ∷ ops) (x ∷ lists) (suc k) d e lt = op_is ops lists k d (omega (arith, e)) (omega (arith, lt))

pub inputs_are : (ops : List Op) (lists : List (List ℕ)) (k : ℕ) → length lists ≡ length ops → k < length ops
    → slice_index_or lists k [] ≡ inputs_at (steps_with ops lists) k
inputs_are [] lists k e lt = elim lt [ ]
inputs_are (o ∷ ops) [] k e lt = let no : ⊥ = omega (arith, e) in elim no [ ]
inputs_are (o ∷ ops) (x ∷ lists) zero e lt = refl
inputs_are (o ∷ ops) (x ∷ lists) (suc k) e lt = inputs_are ops lists k (omega (arith, e)) (omega (arith, lt))

pub all_inputs : (ops : List Op) (lists : List (List ℕ)) → length lists ≡ length ops → inputs_in (steps_with ops lists) ≡ lists
all_inputs [] [] e = refl
all_inputs [] (x ∷ lists) e = let no : ⊥ = omega (arith, e) in elim no [ ]
all_inputs (o ∷ ops) [] e = let no : ⊥ = omega (arith, e) in elim no [ ]
all_inputs (o ∷ ops) (x ∷ lists) e = ap (λ xs. x ∷ xs) (all_inputs ops lists (omega (arith, e)))

pub all_ops : (ops : List Op) (lists : List (List ℕ)) → length lists ≡ length ops → ops_in (steps_with ops lists) ≡ ops
all_ops [] lists e = refl
all_ops (o ∷ ops) [] e = let no : ⊥ = omega (arith, e) in elim no [ ]
all_ops (o ∷ ops) (x ∷ lists) e = ap (λ os. o ∷ os) (all_ops ops lists (omega (arith, e)))

pub as_many_steps : (ops : List Op) (lists : List (List ℕ)) → length lists ≡ length ops
    → length (steps_with ops lists) ≡ length ops
as_many_steps [] lists e = refl
as_many_steps (o ∷ ops) [] e = let no : ⊥ = omega (arith, e) in elim no [ ]
as_many_steps (o ∷ ops) (x ∷ lists) e = ap suc (as_many_steps ops lists (omega (arith, e)))

-- ---- the lists of users, after one more step

-- the last list decides whether its index is appended
pub places_push : (first k : ℕ) (lists : List (List ℕ)) (x : List ℕ)
    → places_from first k (lists ++ x ∷ []) ≡ places_from first k lists ++ cond (is_step_among k x) ((first + length lists) ∷ []) []
places_push first k [] x =
    let here : first ≡ first + 0 = omega arith in
    ap (λ n. cond (is_step_among k x) (n ∷ []) []) here
places_push first k (y ∷ lists) x =
    let next : first + 1 + length lists ≡ first + suc (length lists) = omega arith in
    by (is_step_among k y)
    (places_push (first + 1) k lists x ∙ ap (λ n. places_from (first + 1) k lists ++ cond (is_step_among k x) (n ∷ []) []) next) where
      by : (b : Bool)
          → places_from (first + 1) k (lists ++ x ∷ [])
          ≡ places_from (first + 1) k lists ++ cond (is_step_among k x) ((first + suc (length lists)) ∷ []) []
          → cond b (first ∷ places_from (first + 1) k (lists ++ x ∷ [])) (places_from (first + 1) k (lists ++ x ∷ []))
          ≡ cond b (first ∷ places_from (first + 1) k lists) (places_from (first + 1) k lists)
          ++ cond (is_step_among k x) ((first + suc (length lists)) ∷ []) []
      by true more = ap (λ xs. first ∷ xs) more
      by false more = more

-- the number of lists does not change
pub length_noted : (number : ℕ) (places : List ℕ) (lists : List (List ℕ)) → length (noted number places lists) ≡ length lists
length_noted number [] lists = refl
length_noted number (p ∷ places) lists =
    length_noted number places (slice_set lists p (slice_index_or lists p [] ++ number ∷ [])) ∙ length-set lists p _

no_more : (number : ℕ) (b : Bool) (xs : List ℕ) → b ≡ false → xs ++ cond b (number ∷ []) [] ≡ xs
no_more number false xs e = append-nil xs
no_more number true xs e = cc

at_noted_step : (number p : ℕ) (places : List ℕ) (lists : List (List ℕ)) (k : ℕ)
    → is_step_among p places ≡ false → k < length lists
    → slice_index_or (noted number (p ∷ places) lists) k []
    ≡ slice_index_or (slice_set lists p (slice_index_or lists p [] ++ number ∷ [])) k [] ++ cond (is_step_among k places) (number ∷ []) []
    → slice_index_or (noted number (p ∷ places) lists) k []
    ≡ slice_index_or lists k [] ++ cond (is_step_among k (p ∷ places)) (number ∷ []) []
at_noted_step number p places lists k out lt rest = by (cases_eq k p) where
  after : List (List ℕ)
  after = slice_set lists p (slice_index_or lists p [] ++ number ∷ [])

  by : (k ≡ p) ⊎ (k ≡ p → ⊥)
      → slice_index_or (noted number (p ∷ places) lists) k []
      ≡ slice_index_or lists k [] ++ cond (is_step_among k (p ∷ places)) (number ∷ []) []
  by (inl e) =
      let same : (k == p) ≡ true = eq-eqb k p e in
      let gone : is_step_among k places ≡ false = rw e out in
      let here : slice_index_or after k [] ≡ slice_index_or lists k [] ++ number ∷ [] =
      rw e (get_or-set_same lists p _ [] (rw (← e) lt)) in
      rest ∙ no_more number (is_step_among k places) (slice_index_or after k []) gone ∙ here ∙ rw same refl
  by (inr ne) =
      let other : (k == p) ≡ false = ne_eqb k p ne in
      rest ∙ rw (other, get_or-set_other lists p k (slice_index_or lists p [] ++ number ∷ []) [] ne) refl

-- the number is appended to the list at k exactly if k is one of the indexes
pub at_noted : (number : ℕ) (places : List ℕ) (lists : List (List ℕ)) (k : ℕ)
    → has_repeat (λ a b. a == b) places ≡ false → All (λ p. p < length lists) places → k < length lists
    → slice_index_or (noted number places lists) k [] ≡ slice_index_or lists k [] ++ cond (is_step_among k places) (number ∷ []) []
at_noted number [] lists k apart inside lt = sym (append-nil (slice_index_or lists k []))
at_noted number (p ∷ places) lists k apart inside lt =
    let parts = or_parts (list_any (λ b. p == b) places) (has_repeat (λ a b. a == b) places) apart in
    let next = slice_set lists p (slice_index_or lists p [] ++ number ∷ []) in
    let long : length next ≡ length lists = length-set lists p _ in
    at_noted_step number p places lists k parts.0 lt
    (at_noted number places next k parts.1
    (λ i d below. rw long (All-tail (λ q. q < length lists) p places inside i d below)) (omega (arith, lt, long)))

-- there is a list of indexes for each number
pub length_places : (n : ℕ) (lists : List (List ℕ)) → length (places_of_all n lists) ≡ n
length_places n lists = length-map (range_with_len 0 n) (λ k. places_from 0 k lists) ∙ length-range_with_len 0 n

-- the indexes of the lists that contain number k
pub places_at : (n : ℕ) (lists : List (List ℕ)) (k : ℕ) → k < n
    → slice_index_or (places_of_all n lists) k [] ≡ places_from 0 k lists
places_at n lists k lt = get_or-map-range_with_len (λ k. places_from 0 k lists) 0 n k k [] lt (omega arith)

-- before the first step no step has a user
pub no_places : (n : ℕ) → replicate n [] ≡ places_of_all n []
no_places n =
    ext_get_or [] (replicate n []) (places_of_all n [])
    (length-replicate n [] ∙ sym (length_places n []))
    (λ k below.
    let inside : k < n = omega (arith, below, length-replicate {A = List ℕ} n []) in
    get_or-replicate n k [] [] inside ∙ sym (places_at n [] k inside))

-- the users after one more step
pub next_places : (n i : ℕ) (lists : List (List ℕ)) → i < length lists
    → has_repeat (λ a b. a == b) (slice_index_or lists i []) ≡ false → All (λ p. p < n) (slice_index_or lists i [])
    → noted i (slice_index_or lists i []) (places_of_all n (take i lists)) ≡ places_of_all n (take (i + 1) lists)
next_places n i lists lt apart inside =
    let x = slice_index_or lists i [] in
    let before = places_of_all n (take i lists) in
    let long : length before ≡ n = length_places n (take i lists) in
    let noted_long = length_noted i x before in
    let first : i ≡ 0 + length (take i lists) = omega (arith, lt, length-take-le i lists (omega (arith, lt))) in
    let more : take (i + 1) lists ≡ take i lists ++ x ∷ [] = take_more lists i [] lt in
    ext_get_or [] (noted i x before) (places_of_all n (take (i + 1) lists))
    (noted_long ∙ long ∙ sym (length_places n (take (i + 1) lists)))
    (λ k below.
    let inside_n : k < n = omega (arith, below, noted_long, long) in
    at_noted i x before k apart (λ j d h. rw long (inside j d h)) (omega (arith, inside_n, long))
    ∙ ap (λ front. front ++ cond (is_step_among k x) (i ∷ []) []) (places_at n (take i lists) k inside_n)
    ∙ ap (λ m. places_from 0 k (take i lists) ++ cond (is_step_among k x) (m ∷ []) []) first
    ∙ sym (places_push 0 k (take i lists) x)
    ∙ ap (places_from 0 k) (sym more)
    ∙ sym (places_at n (take (i + 1) lists) k inside_n))
