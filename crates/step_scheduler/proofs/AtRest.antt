-- Runs in which each step is finished before the next is taken, and the number of steps that remain.
use Rattle.std.specs.Prelude.{IfSome, IsSome, OnOk, Err, Ok, None, Option, Result, Some}
use Rattle.std.proofs.Common.{◌≡◌, ℕ, zero, suc, ◌+◌, ◌<◌, ◌≤◌, ◌==◌, ◌||◌, Bool, true, false, List, [], ◌∷◌, ◌++◌}
use Rattle.std.proofs.Common.{refl, sym, ap, ◌∙◌, subst, inl, inr, arith, eq-eqb}
use Rattle.std.proofs.Math.Bool.{or-false}
use Rattle.std.proofs.lemmas.Bool.{cases_eq, false≢true, or_left, or_right}
use Rattle.step_scheduler.specs.Boards.{BoardView}
use Rattle.step_scheduler.specs.Runs.{IsReady, IsUnderWay, is_finished, is_taken}
use Rattle.step_scheduler.specs.declared.boards.Refused.{Refused}
use Rattle.step_scheduler.specs.declared.boards.Refused.TheVariants as refused
use Rattle.step_scheduler.specs.declared.events.Event.{Event}
use Rattle.step_scheduler.specs.declared.events.Event.TheVariants.{Take, Finish}
use Rattle.step_scheduler.specs.near.Whole.{IsAtRest}
use Rattle.step_scheduler.proofs.Histories.{is_taken-push, is_finished-push}

abbrev pub one_if_not : Bool → ℕ
one_if_not true = 0
one_if_not false = 1

-- the number of numbers below n that fail the test
abbrev pub failing : (ℕ → Bool) → ℕ → ℕ
failing p zero = 0
failing p (suc n) = one_if_not (p n) + failing p n

-- the number of the first n steps that were not taken
abbrev pub untaken : List Event → ℕ → ℕ
untaken history n = failing (is_taken history) n

one_less : (b c : Bool) → (b ≡ true → c ≡ true) → one_if_not c ≤ one_if_not b
one_less true true keeps = omega arith
one_less true false keeps = absurd (false≢true (keeps refl))
one_less false true keeps = omega arith
one_less false false keeps = omega arith

no_more : (p q : ℕ → Bool) → ((j : ℕ) → p j ≡ true → q j ≡ true) → (n : ℕ) → failing q n ≤ failing p n
no_more p q keeps zero = omega arith
no_more p q keeps (suc n) = omega (arith, one_less (p n) (q n) (keeps n), no_more p q keeps n)

-- fewer numbers fail test q than test p if all that pass p pass q and k passes only q
fewer : (p q : ℕ → Bool) → ((j : ℕ) → p j ≡ true → q j ≡ true) → (k : ℕ) → p k ≡ false → q k ≡ true → (n : ℕ) → k < n
    → failing q n < failing p n
fewer p q keeps k fails passes zero lt = absurd (omega arith)
fewer p q keeps k fails passes (suc n) lt =
    elim (cases_eq k n) [
      | inl same ↦
          let before : one_if_not (p n) ≡ 1 = ap one_if_not (ap p (sym same) ∙ fails) in
          let after : one_if_not (q n) ≡ 0 = ap one_if_not (ap q (sym same) ∙ passes) in
          omega (arith, before, after, no_more p q keeps n)
      | inr other ↦
          omega (arith, one_less (p n) (q n) (keeps n), fewer p q keeps k fails passes n (omega (arith, lt, other)))
    ]

or_last : (a b : Bool) → ((a || b) || false) ≡ ((a || false) || b)
or_last true b = refl
or_last false b = or-false b

-- the history after step k was taken and finished
abbrev pub with_step : List Event → ℕ → List Event
with_step history k = (history ++ Take k ∷ []) ++ Finish k ∷ []

-- taking step k, and no other step, leaves fewer steps that were not taken
pub fewer_after : (old new : List Event) (k n : ℕ) → k < n → is_taken old k ≡ false
    → ((j : ℕ) → is_taken new j ≡ is_taken (old ++ Take k ∷ []) j) → untaken new n < untaken old n
fewer_after old new k n lt fresh same =
    fewer (is_taken old) (is_taken new) (λ j t. same j ∙ is_taken-push old (Take k) j ∙ or_left _ _ t) k fresh
    (same k ∙ is_taken-push old (Take k) k ∙ or_right _ _ (eq-eqb k k refl)) n lt

module _ (history : List Event) (k : ℕ) where
  pub fewer_untaken : (n : ℕ) → k < n → is_taken history k ≡ false → untaken (with_step history k) n < untaken history n
  fewer_untaken n lt fresh =
      fewer_after history (with_step history k) k n lt fresh
      (λ j. is_taken-push (history ++ Take k ∷ []) (Finish k) j ∙ or-false (is_taken (history ++ Take k ∷ []) j))

  -- no step is under way after the step if none was before it
  pub still_at_rest : IsAtRest history → IsAtRest (with_step history k)
  still_at_rest rest j =
      let between : List Event = history ++ Take k ∷ [] in
      is_taken-push between (Finish k) j ∙ ap (λ b. b || false) (is_taken-push history (Take k) j)
      ∙ or_last (is_taken history j) (k == j) ∙ ap (λ b. (b || false) || (k == j)) (rest j)
      ∙ ap (λ b. b || (k == j)) (sym (is_finished-push history (Take k) j)) ∙ sym (is_finished-push between (Finish k) j)

  -- the step that was taken last is under way
  way_after_take : IsAtRest history → is_taken history k ≡ false → IsUnderWay (history ++ Take k ∷ []) k
  way_after_take rest fresh = record {
    taken = is_taken-push history (Take k) k ∙ or_right _ _ (eq-eqb k k refl);
    unfinished = is_finished-push history (Take k) k ∙ or-false (is_finished history k) ∙ sym (rest k) ∙ fresh;
  }

-- a board that has not failed accepts the value of a step that is under way
pub takes_value : {V : Type 0} (old new : BoardView) (k : ℕ) (value : Option V) (r : Result (Unit {0}) Refused)
    → old.failed ≡ false → IsUnderWay old.history k → IsSome value → (r ≡ Err refused.Failed → old.failed ≡ true)
    → (r ≡ Err refused.NotTaken → IsUnderWay old.history k → ⊥)
    → OnOk r (IfSome value (λ v. new ≡ record old { history = old.history ++ Finish k ∷ [] }))
    → new ≡ record old { history = old.history ++ Finish k ∷ [] }
takes_value old new k None r live way some failed not_taken ok = absurd (false≢true some)
takes_value old new k (Some v) (Ok u) live way some failed not_taken ok = ok
takes_value old new k (Some v) (Err refused.Failed) live way some failed not_taken ok =
    absurd (false≢true (sym live ∙ failed refl))
takes_value old new k (Some v) (Err refused.NotTaken) live way some failed not_taken ok = absurd (not_taken refl way)

-- the board after it handed out step k and received its value
pub after_step : {V : Type 0} (old between new : BoardView) (k : ℕ) (value : Option V) (r : Result (Unit {0}) Refused)
    → old.failed ≡ false → IsAtRest old.history → IsReady old.job.set.plan old.history k
    → between ≡ record old { history = old.history ++ Take k ∷ [] } → IsSome value
    → (r ≡ Err refused.Failed → between.failed ≡ true) → (r ≡ Err refused.NotTaken → IsUnderWay between.history k → ⊥)
    → OnOk r (IfSome value (λ v. new ≡ record between { history = between.history ++ Finish k ∷ [] }))
    → new ≡ record old { history = with_step old.history k }
after_step old between new k value r live rest ready taken some failed not_taken ok =
    let way = subst (λ (b : BoardView). IsUnderWay b.history k) (sym taken) (way_after_take old.history k rest ready.fresh) in
    takes_value between new k value r (ap (λ (b : BoardView). b.failed) taken ∙ live) way some failed not_taken ok
    ∙ ap (λ (b : BoardView). record b { history = b.history ++ Finish k ∷ [] }) taken
