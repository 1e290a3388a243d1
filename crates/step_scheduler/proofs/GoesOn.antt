-- If not every step is finished, a step can go on.
use Rattle.std.proofs.Common.{◌≡◌, ℕ, zero, suc, ◌<◌, Bool, true, false, List, [], ◌∷◌, length, All}
use Rattle.std.proofs.Common.{sym, ap, ◌∙◌, ◌⊎◌, inl, inr, arith, get_or}
use Rattle.std.proofs.lemmas.Bool.{cases_eq, cases_Bool}
use Rattle.std.proofs.lemmas.List.Elements.{All-cons, All-nil}
use Rattle.plan_compiler.specs.Compiled.{IsCompiled, SetView}
use Rattle.plan_ir.specs.Plans.{inputs_at}
use Rattle.step_scheduler.specs.Jobs.{JobView}
use Rattle.step_scheduler.specs.declared.events.Event.{Event}
use Rattle.step_scheduler.specs.declared.progress.Progress.{Progress}
use Rattle.step_scheduler.specs.Runs.{AllFinished, CanGoOn, is_finished, is_taken}
use Rattle.step_scheduler.specs.near.Steps.{is_done, progress_at}
use Rattle.step_scheduler.specs.near.Stepped.{IsRunBoard}

-- all elements pass the test, or one of them fails it
all_or_one : (p : ℕ → Bool) (xs : List ℕ) → All (λ i. p i ≡ true) xs ⊎
    ((m : ℕ) × (m < length xs) × (p (get_or xs m 0) ≡ false))
all_or_one p [] = inl (All-nil (λ i. p i ≡ true))
all_or_one p (x ∷ xs) =
    elim (cases_Bool (p x)) [
      | inr fails ↦ inr (0, omega arith, fails)
      | inl passes ↦
          elim (all_or_one p xs) [
            | inl rest ↦ inl (All-cons (λ i. p i ≡ true) x xs passes rest)
            | inr one ↦ inr (suc one.0, omega (arith, one.1), one.2)
          ]
    ]

below_more_at : (p : ℕ → Bool) (n : ℕ) → ((k : ℕ) → k < n → p k ≡ true) → p n ≡ true → (k : ℕ)
    → k < suc n → p k ≡ true
below_more_at p n below here k h =
    elim (cases_eq k n) [ inl same ↦ ap p same ∙ here | inr other ↦ below k (omega arith) ]

-- all numbers below n pass the test, or one of them fails it
below_or_one : (p : ℕ → Bool) (n : ℕ) → ((k : ℕ) → k < n → p k ≡ true) ⊎ ((k : ℕ) × (k < n) × (p k ≡ false))
below_or_one p zero = inl (λ k h. absurd (omega arith))
below_or_one p (suc n) =
    elim (below_or_one p n) [
      | inr one ↦ inr (one.0, omega (arith, one.1), one.2)
      | inl below ↦
          elim (cases_Bool (p n)) [
            | inr fails ↦ inr (n, omega arith, fails)
            | inl passes ↦ inl (below_more_at p n below passes)
          ]
    ]

module _ (set : SetView) (compiled : IsCompiled set) (history : List Event) where
  -- if a step of a rank below the bound is not finished, some step can go on
  unfinished_goes_on : (bound k : ℕ) → compiled.rank k < bound → k < length set.plan → is_finished history k ≡ false
      → (j : ℕ) × CanGoOn set.plan history j
  unfinished_goes_on zero k low h open_k = absurd (omega arith)
  unfinished_goes_on (suc bound) k low h open_k =
      elim (cases_Bool (is_taken history k)) [
        | inl taken ↦ (k, inr (record { taken = taken; unfinished = open_k }))
        | inr fresh ↦
            elim (all_or_one (is_finished history) (inputs_at set.plan k)) [
              | inl fed ↦ (k, inl (record { in_range = h; fresh = fresh; fed = fed }))
              | inr one ↦
                  let i : ℕ = get_or (inputs_at set.plan k) one.0 0 in
                  let lower = compiled.lower k h one.0 0 one.1 in
                  let range = compiled.in_range k h one.0 0 one.1 in
                  unfinished_goes_on bound i (omega arith) range one.2
            ]
      ]

  -- if not all steps are finished, some step can go on
  pub some_goes_on : (AllFinished set.plan history → ⊥) → (k : ℕ) × CanGoOn set.plan history k
  some_goes_on not_all =
      elim (below_or_one (is_finished history) (length set.plan)) [
        | inl all ↦ absurd (not_all all)
        | inr one ↦ unfinished_goes_on (suc (compiled.rank one.0)) one.0 (omega arith) one.1 one.2
      ]

-- if a step of a board has no value, some step can go on
pub board_goes_on : (job : JobView) (steps : List Progress) (history : List Event) (capacity : ℕ)
    → IsRunBoard job steps history capacity → (((k : ℕ) → k < length steps → is_done (progress_at steps k) ≡ true) → ⊥)
    → (k : ℕ) × CanGoOn job.set.plan history k
board_goes_on job steps history capacity b not_all =
    some_goes_on job.set b.compiled history (λ all. not_all (λ k h.
    sym (b.finished k) ∙ all k (let l = b.long in omega arith)))
