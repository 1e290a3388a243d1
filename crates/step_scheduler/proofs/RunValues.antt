-- The values of a run are the meanings of its steps.
use Rattle.std.proofs.Common.{◌≡◌, ℕ, ◌<◌, ◌==◌, true, List, [], ◌∷◌, ◌++◌, length, map, All, refl, sym, ap, ◌∙◌, ◌⊎◌, inl, inr, subst}
use Rattle.std.proofs.Common.{append_assoc, append-nil, eq-eqb}
use Rattle.std.proofs.lemmas.Bool.{cases_eq, eqb-true, ne_eqb, or_cases, or_left, false≢true}
use Rattle.plan_compiler.specs.Compiled.{Fits, IsCompiled}
use Rattle.plan_ir.specs.Plans.{inputs_at, op_at}
use Rattle.plan_ir.specs.Apply.{value_on}
use Rattle.plan_ir.specs.declared.values.Value.{Value}
use Rattle.step_scheduler.specs.Jobs.{JobView, inputs_for, meaning_at}
use Rattle.step_scheduler.specs.declared.events.Event.{Event}
use Rattle.step_scheduler.specs.declared.events.Event.TheVariants.{Take, Finish}
use Rattle.step_scheduler.specs.Runs.{AllFinished, is_taken, is_finished, IsRunAfter, IsRun, IsReady, IsUnderWay}
use Rattle.step_scheduler.specs.Runs.{values_after, values_along, run_values}
use Rattle.step_scheduler.proofs.Histories.{is_taken-push, is_finished-push}
use Rattle.step_scheduler.proofs.BoardLemmas.{map_same}

-- the invariant after the events so far
record IsGoodSoFar (job : JobView) (before : List Event) (values : ℕ → Value) : Type 0 where
  in_range : (j : ℕ) → is_taken before j ≡ true → j < length job.set.plan
  fed : (j : ℕ) → is_taken before j ≡ true → All (λ i. is_finished before i ≡ true) (inputs_at job.set.plan j)
  right : (k : ℕ) → is_finished before k ≡ true → values k ≡ meaning_at job k

still_finished : (before : List Event) (e : Event) (i : ℕ) → is_finished before i ≡ true
    → is_finished (before ++ e ∷ []) i ≡ true
still_finished before e i h = is_finished-push before e i ∙ or_left _ _ h

module _ (job : JobView) (compiled : IsCompiled job.set) (fits : Fits job.set.tables (job.portfolio).holdings) where
  good_take : (before : List Event) (values : ℕ → Value) (j : ℕ) → IsGoodSoFar job before values
      → IsReady job.set.plan before j → IsGoodSoFar job (before ++ Take j ∷ []) (values_after job values (Take j))
  good_take before values j g ready = record {
    in_range = λ k t. elim (or_cases _ _ (sym (is_taken-push before (Take j) k) ∙ t)) [
      | inl old ↦ g.in_range k old
      | inr new ↦ let P : ℕ → Type 0 = λ x. x < length job.set.plan in subst P (eqb-true j k new) ready.in_range
    ];
    fed = λ k t i d l. still_finished before (Take j) _ (elim (or_cases _ _ (sym (is_taken-push before (Take j) k) ∙ t)) [
      | inl old ↦ g.fed k old i d l
      | inr new ↦ subst (λ (x : ℕ). All (λ i. is_finished before i ≡ true) (inputs_at job.set.plan x))
          (eqb-true j k new) ready.fed i d l
    ]);
    right = λ k f. elim (or_cases _ _ (sym (is_finished-push before (Take j) k) ∙ f)) [
      | inl old ↦ g.right k old
      | inr new ↦ absurd (false≢true new)
    ];
  }

  at_step : (before : List Event) (values : ℕ → Value) (j : ℕ) → IsGoodSoFar job before values → IsUnderWay before j
      → value_on job.set.tables (job.portfolio).holdings (op_at job.set.plan j)
      (map values (inputs_at job.set.plan j)) ≡ meaning_at job j
  at_step before values j g under_way =
      let inputs : map values (inputs_at job.set.plan j) ≡ inputs_for job j =
      map_same _ _ _ (λ i d l. g.right _ (g.fed j under_way.taken i d l)) in
      ap (λ xs. value_on job.set.tables (job.portfolio).holdings (op_at job.set.plan j) xs) inputs
      ∙ compiled.gives (job.portfolio).holdings fits j (g.in_range j under_way.taken)

  finished_right : (before : List Event) (values : ℕ → Value) (j k : ℕ) → IsGoodSoFar job before values
      → IsUnderWay before j → (is_finished before k ≡ true) ⊎ ((j == k) ≡ true)
      → values_after job values (Finish j) k ≡ meaning_at job k
  finished_right before values j k g under_way cases =
      elim (cases_eq j k) [
        | inl same ↦
            subst (λ (x : ℕ). values_after job values (Finish j) x ≡ meaning_at job x) same
            (rw (eq-eqb j j refl) (at_step before values j g under_way))
        | inr other ↦
            elim cases [
              | inl old ↦ rw (ne_eqb j k other) (g.right k old)
              | inr new ↦ absurd (other (eqb-true j k new))
            ]
      ]

  good_finish : (before : List Event) (values : ℕ → Value) (j : ℕ) → IsGoodSoFar job before values
      → IsUnderWay before j → IsGoodSoFar job (before ++ Finish j ∷ []) (values_after job values (Finish j))
  good_finish before values j g under_way = record {
    in_range = λ k t. elim (or_cases _ _ (sym (is_taken-push before (Finish j) k) ∙ t)) [
      | inl old ↦ g.in_range k old
      | inr new ↦ absurd (false≢true new)
    ];
    fed = λ k t i d l. still_finished before (Finish j) _ (elim (or_cases _ _ (sym (is_taken-push before (Finish j) k) ∙ t)) [
      | inl old ↦ g.fed k old i d l
      | inr new ↦ absurd (false≢true new)
    ]);
    right = λ k f. finished_right before values j k g under_way (or_cases _ _ (sym (is_finished-push before (Finish j) k) ∙ f));
  }

  run_gives : (before history : List Event) (values : ℕ → Value) → IsGoodSoFar job before values
      → IsRunAfter job.set.plan before history → IsGoodSoFar job (before ++ history) (values_along job values history)
  run_gives before [] values g run = subst (λ (h : List Event). IsGoodSoFar job h values) (sym (append-nil before)) g
  run_gives before (Take j ∷ es) values g run =
      subst (λ (h : List Event). IsGoodSoFar job h (values_along job (values_after job values (Take j)) es))
      (append_assoc before (Take j ∷ []) es)
      (run_gives (before ++ Take j ∷ []) es (values_after job values (Take j)) (good_take before values j g run.0) run.1)
  run_gives before (Finish j ∷ es) values g run =
      subst (λ (h : List Event). IsGoodSoFar job h (values_along job (values_after job values (Finish j)) es))
      (append_assoc before (Finish j ∷ []) es)
      (run_gives (before ++ Finish j ∷ []) es (values_after job values (Finish j)) (good_finish before values j g run.0) run.1)

  -- the value that a run gives to a finished step is its meaning
  pub run_means : (history : List Event) → IsRun job.set.plan history → (k : ℕ) → is_finished history k ≡ true
      → run_values job history k ≡ meaning_at job k
  run_means history run =
      (run_gives [] history _ (record {
        in_range = λ j t. absurd (false≢true t);
        fed =
            λ j t. absurd (false≢true t);
        right = λ k f. absurd (false≢true f);
      }) run).right

  -- the values that a run gives to the inputs of a ready step are their meanings
  pub ready_inputs : (history : List Event) → IsRun job.set.plan history → (k : ℕ) → IsReady job.set.plan history k
      → map (run_values job history) (inputs_at job.set.plan k) ≡ inputs_for job k
  ready_inputs history run k ready = map_same _ _ _ (λ i d l. run_means history run _ (ready.fed i d l))

  -- two runs that finished every step give each step the same value
  pub complete_runs_agree : (one other : List Event) → IsRun job.set.plan one → IsRun job.set.plan other
      → AllFinished job.set.plan one → AllFinished job.set.plan other → (k : ℕ) → k < length job.set.plan
      → run_values job one k ≡ run_values job other k
  complete_runs_agree one other run_of_one run_of_other all_of_one all_of_other k lt =
      run_means one run_of_one k (all_of_one k lt) ∙ sym (run_means other run_of_other k (all_of_other k lt))
