-- In a run no step is taken twice or finished twice.
use Rattle.std.proofs.Common.{◌≡◌, ℕ, ◌+◌, ◌||◌, if◌then◌else◌, Bool, true, false, List, [], ◌∷◌, ◌++◌, refl, sym, ap, ◌∙◌, subst, arith}
use Rattle.std.proofs.Common.{append_assoc, append-nil, add_assoc}
use Rattle.std.proofs.lemmas.Bool.{eqb-true, false≢true}
use Rattle.plan_ir.specs.Plans.{StepView}
use Rattle.step_scheduler.specs.declared.events.Event.{Event}
use Rattle.step_scheduler.specs.declared.events.Event.TheVariants.{Take, Finish}
use Rattle.step_scheduler.specs.Runs.{takes, finishes, is_taken, is_finished, times_taken, times_finished, IsOnce}
use Rattle.step_scheduler.specs.Runs.{IsLawful, IsRunAfter, IsRun}
use Rattle.step_scheduler.proofs.Histories.{is_taken-push, is_finished-push}

times_taken-push : (h : List Event) (e : Event) (k : ℕ) → times_taken (h ++ e ∷ []) k ≡ times_taken h k +
    (if takes e k then 1 else 0)
times_taken-push [] e k = omega arith
times_taken-push (x ∷ xs) e k = ap (λ n. (if takes x k then 1 else 0) + n) (times_taken-push xs e k) ∙ sym (add_assoc _ _ _)

times_finished-push : (h : List Event) (e : Event) (k : ℕ) → times_finished (h ++ e ∷ []) k ≡ times_finished h k +
    (if finishes e k then 1 else 0)
times_finished-push [] e k = omega arith
times_finished-push (x ∷ xs) e k = ap (λ n. (if finishes x k then 1 else 0) + n) (times_finished-push xs e k) ∙ sym (add_assoc _ _ _)

one_more : (was is : Bool) (n : ℕ) → n ≡ (if was then 1 else 0) → (is ≡ true → was ≡ false)
    → n + (if is then 1 else 0) ≡ (if was || is then 1 else 0)
one_more true true n e fresh = absurd (false≢true (sym (fresh refl)))
one_more true false n e fresh = omega arith
one_more false true n e fresh = omega arith
one_more false false n e fresh = omega arith

fresh_taken : (plan : List StepView) (h : List Event) (e : Event) (k : ℕ) → IsLawful plan h e → takes e k ≡ true
    → is_taken h k ≡ false
fresh_taken plan h (Take j) k lawful t = subst (λ (x : ℕ). is_taken h x ≡ false) (eqb-true j k t) lawful.fresh
fresh_taken plan h (Finish j) k lawful t = absurd (false≢true t)

fresh_finished : (plan : List StepView) (h : List Event) (e : Event) (k : ℕ) → IsLawful plan h e → finishes e k ≡ true
    → is_finished h k ≡ false
fresh_finished plan h (Take j) k lawful t = absurd (false≢true t)
fresh_finished plan h (Finish j) k lawful t = subst (λ (x : ℕ). is_finished h x ≡ false) (eqb-true j k t) lawful.unfinished

once_push : (plan : List StepView) (h : List Event) (e : Event) → IsOnce h → IsLawful plan h e → IsOnce (h ++ e ∷ [])
once_push plan h e o lawful = record {
  taken = λ k. rw (times_taken-push h e k, is_taken-push h e k)
      (one_more (is_taken h k) (takes e k) _ (o.taken k) (fresh_taken plan h e k lawful));
  finished = λ k. rw (times_finished-push h e k, is_finished-push h e k)
      (one_more (is_finished h k) (finishes e k) _ (o.finished k) (fresh_finished plan h e k lawful));
}

once_after : (plan : List StepView) (before history : List Event) → IsOnce before → IsRunAfter plan before history
    → IsOnce (before ++ history)
once_after plan before [] o run = subst IsOnce (sym (append-nil before)) o
once_after plan before (e ∷ es) o run =
    subst IsOnce (append_assoc before (e ∷ []) es) (once_after plan (before ++ e ∷ []) es (once_push plan before e o run.0) run.1)

pub run_once : (plan : List StepView) (history : List Event) → IsRun plan history → IsOnce history
run_once plan history run = once_after plan [] history (record { taken = λ k. refl; finished = λ k. refl }) run
