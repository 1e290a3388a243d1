-- In a run each finished step was taken once, and then finished once.
use Rattle.std.proofs.Common.{◌≡◌, ◌<◌, ℕ, length, true, List, [], ◌∷◌, ◌++◌, ap, ◌∙◌, subst, append_assoc, inl, inr, if◌then◌else◌}
use Rattle.std.proofs.lemmas.Bool.{eqb-true, false≢true, or_cases, or_left, or_right}
use Rattle.plan_ir.specs.Plans.{StepView}
use Rattle.step_scheduler.specs.declared.events.Event.{Event}
use Rattle.step_scheduler.specs.declared.events.Event.TheVariants.{Take, Finish}
use Rattle.step_scheduler.specs.Runs.{is_taken, is_finished, finishes, takes, IsRunAfter, IsRun, IsTakenThenFinished}
use Rattle.step_scheduler.specs.Runs.{IsDoneOnce, AllFinished}
use Rattle.step_scheduler.proofs.RunOnce.{run_once}

-- moves the first event from the later events to the earlier ones
after_event : (before : List Event) (e : Event) (es : List Event) (k : ℕ)
    → IsTakenThenFinished ((before ++ e ∷ []) ++ es) k → IsTakenThenFinished (before ++ e ∷ es) k
after_event before e es k = subst (λ (h : List Event). IsTakenThenFinished h k) (append_assoc before (e ∷ []) es)

finished_at : (plan : List StepView) (before : List Event) (e : Event) (es : List Event) (k : ℕ)
    → IsRunAfter plan before (e ∷ es) → finishes e k ≡ true → IsTakenThenFinished (before ++ e ∷ es) k
finished_at plan before (Take j) es k run f = absurd (false≢true f)
finished_at plan before (Finish j) es k run f =
    let same : j ≡ k = eqb-true j k f in
    record {
      before = before;
      after = es;
      is = ap (λ (x : ℕ). before ++ Finish x ∷ es) same;
      taken = subst (λ (x : ℕ). is_taken before x ≡ true) same run.0.taken;
    }

in_order : (plan : List StepView) (before history : List Event) (k : ℕ) → IsRunAfter plan before history
    → is_finished history k ≡ true → IsTakenThenFinished (before ++ history) k
in_order plan before [] k run f = absurd (false≢true f)
in_order plan before (e ∷ es) k run f =
    elim (or_cases (finishes e k) (is_finished es k) f) [
      | inl here ↦ finished_at plan before e es k run here
      | inr later ↦ after_event before e es k (in_order plan (before ++ e ∷ []) es k run.1 later)
    ]

taken_longer : (before after : List Event) (k : ℕ) → is_taken before k ≡ true → is_taken (before ++ after) k ≡ true
taken_longer [] after k t = absurd (false≢true t)
taken_longer (e ∷ es) after k t =
    elim (or_cases (takes e k) (is_taken es k) t) [
      | inl here ↦ or_left (takes e k) (is_taken (es ++ after) k) here
      | inr later ↦ or_right (takes e k) (is_taken (es ++ after) k) (taken_longer es after k later)
    ]

-- a step that is finished in a run was taken
pub finished_was_taken : (plan : List StepView) (history : List Event) → IsRun plan history → (k : ℕ)
    → is_finished history k ≡ true → is_taken history k ≡ true
finished_was_taken plan history run k finished =
    let order = in_order plan [] history k run finished in
    ap (λ h. is_taken h k) order.is ∙ taken_longer order.before (Finish k ∷ order.after) k order.taken

-- in a run that finished every step, each step was taken once and then finished once
pub complete_once : (plan : List StepView) (history : List Event) → IsRun plan history → AllFinished plan history
    → (k : ℕ) → k < length plan → IsDoneOnce history k
complete_once plan history run all k h =
    let once = run_once plan history run in
    let finished = all k h in
    let order = in_order plan [] history k run finished in
    let taken = finished_was_taken plan history run k finished in
    record {
      taken = once.taken k ∙ ap (λ b. if b then 1 else 0) taken;
      finished = once.finished k ∙ ap (λ b. if b then 1 else 0) finished;
      in_order = order;
    }
