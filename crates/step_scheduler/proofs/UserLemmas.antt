-- How often a step is a user of another step.
use Rattle.std.proofs.Common.{◌≡◌, ℕ, suc, ◌+◌, ◌<◌, ◌≤◌, ◌==◌, ◌||◌, Bool, true, false, cond, List, [], ◌∷◌}
use Rattle.std.proofs.Common.{length, refl, sym, ap, ◌∙◌, subst, inl, inr, arith, slice_index, zero-add, eq-eqb}
use Rattle.std.specs.Prelude.{All, if◌then◌else◌}
use Rattle.std.specs.List.Sorted.{IsStrictlyIncreasing}
use Rattle.std.proofs.lemmas.Bool.{cases_eq, ne_eqb, or_parts}
use Rattle.span_tables.specs.Names.{has_repeat}
use Rattle.plan_ir.specs.Plans.{StepView, inputs_at, is_step_among, users_of}
use Rattle.plan_ir.proofs.UserLaws.{users_are_steps, users_just, users_rise}
use Rattle.plan_compiler.specs.Compiled.{IsCompiled, SetView}
use Rattle.plan_compiler.specs.near.Beginnings.{times}

-- a number occurs at most once in a list without repetition
among_once : (j : ℕ) (xs : List ℕ) → has_repeat (λ a b. a == b) xs ≡ false → times j xs ≡ cond (is_step_among j xs) 1 0
among_once j [] distinct = refl
among_once j (x ∷ xs) distinct =
    let parts = or_parts _ _ distinct in
    elim (cases_eq x j) [
      | inl same ↦
          let none = among_once x xs parts.1 in
          let alone : times x xs ≡ 0 = none ∙ ap (λ b. cond b 1 0) parts.0 in
          subst (λ (y : ℕ). (if x == y then 1 else 0) + times y xs ≡ cond ((y == x) || is_step_among y xs) 1 0) same
          (rw (eq-eqb x x refl, alone) refl)
      | inr other ↦
          rw (ne_eqb x j other, ne_eqb j x (λ e. other (sym e))) (zero-add _ ∙ among_once j xs parts.1)
    ]

-- the elements of a strictly increasing list are larger than the elements before them
rise_on : (x : ℕ) (xs : List ℕ) → IsStrictlyIncreasing (x ∷ xs) → IsStrictlyIncreasing xs
rise_on x xs rise k lt =
    let more : suc k + 1 ≡ suc (k + 1) = omega arith in
    subst (λ n. slice_index xs k < slice_index (x ∷ xs) n) more (rise (suc k) (omega (arith, lt)))

not_behind : (x : ℕ) (xs : List ℕ) → IsStrictlyIncreasing (x ∷ xs) → (n : ℕ) → n ≤ x → is_step_among n xs ≡ false
not_behind x [] rise n le = refl
not_behind x (y ∷ ys) rise n le =
    let lt : x < y = rise 0 (omega arith) in
    rw (ne_eqb n y (λ e. omega (arith, e, lt, le)), not_behind y ys (rise_on x (y ∷ ys) rise) n (omega (arith, le, lt))) refl

-- a strictly increasing list has no repetition
rise_distinct : (xs : List ℕ) → IsStrictlyIncreasing xs → has_repeat (λ a b. a == b) xs ≡ false
rise_distinct [] rise = refl
rise_distinct (x ∷ xs) rise = rw (not_behind x xs rise x (omega arith), rise_distinct xs (rise_on x xs rise)) refl

-- step k is a user of step j once if j is among its inputs, and otherwise not at all
users_count : (plan : List StepView) (j k : ℕ) → times k (users_of plan j) ≡ cond (is_step_among j (inputs_at plan k)) 1 0
users_count plan j k =
    among_once k (users_of plan j) (rise_distinct (users_of plan j) (users_rise plan j)) ∙ ap (λ b. cond b 1 0) (users_just plan j k)

cond_le : (b : Bool) → cond b 1 0 ≤ 1
cond_le true = omega arith
cond_le false = omega arith

-- users are steps of the plan: k is a user of j as often as j is an input of k, and at most once
pub record HasUsers (plan : List StepView) : Type 0 where
  pub in_range : (j : ℕ) → All (λ u. u < length plan) (users_of plan j)
  pub same : (j k : ℕ) → k < length plan → times k (users_of plan j) ≡ times j (inputs_at plan k)
  pub once : (j k : ℕ) → times k (users_of plan j) ≤ 1

pub has_users : (set : SetView) → IsCompiled set → HasUsers set.plan
has_users set compiled = record {
  in_range = users_are_steps set.plan;
  same = λ j k h. users_count set.plan j k ∙ sym (among_once j (inputs_at set.plan k) (compiled.distinct k h));
  once = λ j k. rw (users_count set.plan j k) (cond_le (is_step_among j (inputs_at set.plan k)));
}
