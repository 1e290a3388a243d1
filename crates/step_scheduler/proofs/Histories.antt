-- Lemmas about histories.
use Rattle.std.proofs.Common.{◌≡◌, ℕ, List, [], ◌∷◌, ◌++◌, ◌||◌, ap, ◌∙◌, sym, append_assoc, append-nil, subst}
use Rattle.std.proofs.Math.Bool.{or_assoc, or-false}
use Rattle.plan_ir.specs.Plans.{StepView}
use Rattle.step_scheduler.specs.declared.events.Event.{Event}
use Rattle.step_scheduler.specs.Runs.{takes, finishes, is_taken, is_finished, IsLawful, IsRunAfter}

pub is_taken-push : (history : List Event) (e : Event) (k : ℕ) → is_taken (history ++ e ∷ []) k ≡ (is_taken history k || takes e k)
is_taken-push [] e k = or-false (takes e k)
is_taken-push (x ∷ xs) e k = ap (λ b. takes x k || b) (is_taken-push xs e k) ∙ sym (or_assoc (takes x k) (is_taken xs k) (takes e k))

pub is_finished-push : (history : List Event) (e : Event) (k : ℕ)
    → is_finished (history ++ e ∷ []) k ≡ (is_finished history k || finishes e k)
is_finished-push [] e k = or-false (finishes e k)
is_finished-push (x ∷ xs) e k = ap (λ b. finishes x k || b) (is_finished-push xs e k)
    ∙ sym (or_assoc (finishes x k) (is_finished xs k) (finishes e k))

pub run_push : (plan : List StepView) (before history : List Event) (e : Event) → IsRunAfter plan before history
    → IsLawful plan (before ++ history) e → IsRunAfter plan before (history ++ e ∷ [])
run_push plan before [] e run lawful = ((let P : List Event → Type 0 = λ h. IsLawful plan h e in subst P (append-nil before) lawful), tt)
run_push plan before (x ∷ xs) e run lawful = (
  run.0,
  run_push plan (before ++ x ∷ []) xs e run.1 (let P : List Event → Type 0 = λ h. IsLawful plan h e in
      subst P (sym (append_assoc before (x ∷ []) xs)) lawful),
)
