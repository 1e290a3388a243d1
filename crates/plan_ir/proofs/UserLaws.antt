-- Lemmas about the users of a step.
use Rattle.std.proofs.Common.{◌≡◌, ℕ, zero, suc, ◌+◌, ◌<◌, ◌≤◌, Bool, true, false, cond, List, []}
use Rattle.std.proofs.Common.{◌∷◌, length, slice_index_or, refl, ap, ◌∙◌, arith}
use Rattle.std.specs.Prelude.{◌==◌, All}
use Rattle.std.specs.List.Sorted.{IsStrictlyIncreasing}
use Rattle.std.proofs.lemmas.Bool.{eq-eqb, ne_eqb}
use Rattle.plan_ir.specs.Plans.{StepView, inputs_at, inputs_in, is_step_among, places_from, users_of}

-- each index is at least first and below end
abbrev AreFrom : ℕ → ℕ → List ℕ → Type 0
AreFrom first end places =
    (i d : ℕ) → i < length places → (first ≤ slice_index_or places i d) × (slice_index_or places i d < end)

are_from : (k first : ℕ) (lists : List (List ℕ)) → AreFrom first (first + length lists) (places_from first k lists)
are_from k first [] = λ i d lt. elim lt [ ]
are_from k first (x ∷ lists) = by (is_step_among k x) (are_from k (first + 1) lists) where
  rest : List ℕ
  rest = places_from (first + 1) k lists

  by : (b : Bool) → AreFrom (first + 1) (first + 1 + length lists) rest
      → AreFrom first (first + suc (length lists)) (cond b (first ∷ rest) rest)
  by true later zero d lt = (omega arith, omega arith)
  by true later (suc i) d lt = let at = later i d (omega (arith, lt)) in (omega (arith, at), omega (arith, at))
  by false later i d lt = let at = later i d lt in (omega (arith, at), omega (arith, at))

-- a number below the first index is not in the result
not_before : (k first : ℕ) (lists : List (List ℕ)) (n : ℕ) → n < first → is_step_among n (places_from first k lists) ≡ false
not_before k first [] n lt = refl
not_before k first (x ∷ lists) n lt = by (is_step_among k x) (not_before k (first + 1) lists n (omega (arith, lt))) where
  rest : List ℕ
  rest = places_from (first + 1) k lists

  other : (n == first) ≡ false
  other = ne_eqb n first (λ e. omega (arith, e, lt))

  by : (b : Bool) → is_step_among n rest ≡ false → is_step_among n (cond b (first ∷ rest) rest) ≡ false
  by true later = rw (other, later) refl
  by false later = later

-- an index is in the result exactly if its list contains k
among_at : (k first : ℕ) (lists : List (List ℕ)) (i n : ℕ) → n ≡ first + i
    → is_step_among n (places_from first k lists) ≡ is_step_among k (slice_index_or lists i [])
among_at k first [] i n e = refl
among_at k first (x ∷ lists) zero n e = by (is_step_among k x) where
  rest : List ℕ
  rest = places_from (first + 1) k lists

  same : (n == first) ≡ true
  same = eq-eqb n first (omega (arith, e))

  by : (b : Bool) → is_step_among n (cond b (first ∷ rest) rest) ≡ b
  by true = rw same refl
  by false = not_before k (first + 1) lists n (omega (arith, e))
among_at k first (x ∷ lists) (suc i) n e = by (is_step_among k x) (among_at k (first + 1) lists i n (omega (arith, e))) where
  rest : List ℕ
  rest = places_from (first + 1) k lists

  other : (n == first) ≡ false
  other = ne_eqb n first (λ same. omega (arith, e, same))

  by : (b : Bool) → is_step_among n rest ≡ is_step_among k (slice_index_or lists i [])
      → is_step_among n (cond b (first ∷ rest) rest) ≡ is_step_among k (slice_index_or lists i [])
  by true later = rw other later
  by false later = later

-- each index is below the next one
abbrev Rise : List ℕ → Type 0
Rise places = (i d : ℕ) → suc i < length places → slice_index_or places i d < slice_index_or places (suc i) d

rise : (k first : ℕ) (lists : List (List ℕ)) → Rise (places_from first k lists)
rise k first [] = λ i d lt. elim lt [ ]
rise k first (x ∷ lists) = by (is_step_among k x) (rise k (first + 1) lists) where
  rest : List ℕ
  rest = places_from (first + 1) k lists

  by : (b : Bool) → Rise rest → Rise (cond b (first ∷ rest) rest)
  by true later zero d lt = let next = are_from k (first + 1) lists 0 d (omega (arith, lt)) in omega (arith, next)
  by true later (suc i) d lt = later i d (omega (arith, lt))
  by false later i d lt = later i d lt

-- the inputs of step k, read from the inputs of all steps
inputs_read : (plan : List StepView) (k : ℕ) → slice_index_or (inputs_in plan) k [] ≡ inputs_at plan k
inputs_read [] k = refl
inputs_read (s ∷ plan) zero = refl
inputs_read (s ∷ plan) (suc k) = inputs_read plan k

inputs_of_all : (plan : List StepView) → length (inputs_in plan) ≡ length plan
inputs_of_all [] = refl
inputs_of_all (s ∷ plan) = ap suc (inputs_of_all plan)

-- a step is a user of k exactly if it has k among its inputs
pub users_just : (plan : List StepView) (k user : ℕ) → is_step_among user (users_of plan k) ≡ is_step_among k (inputs_at plan user)
users_just plan k user = among_at k 0 (inputs_in plan) user user (omega arith) ∙ ap (is_step_among k) (inputs_read plan user)

-- users are steps of the plan
pub users_are_steps : (plan : List StepView) (k : ℕ) → All (λ user. user < length plan) (users_of plan k)
users_are_steps plan k i d lt = omega (arith, are_from k 0 (inputs_in plan) i d lt, inputs_of_all plan)

-- users are in increasing order
pub users_rise : (plan : List StepView) (k : ℕ) → IsStrictlyIncreasing (users_of plan k)
users_rise plan k i lt =
    let here = rise k 0 (inputs_in plan) i 0 (omega (arith, lt)) in
    let next : suc i ≡ i + 1 = omega arith in
    omega (arith, here, ap (λ n. slice_index_or (users_of plan k) n 0) next)
