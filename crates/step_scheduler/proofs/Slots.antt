-- The values of a board are correct after each event.
use Rattle.std.proofs.Common.{◌≡◌, ℕ, zero, suc, ◌<◌, true, false, List, length, map, refl, sym, ap, Some, None}
use Rattle.std.proofs.Common.{◌∙◌, subst, inl, inr, arith, slice_set, replicate, get_or-set_same, get_or-set_other, length-set}
use Rattle.std.proofs.Common.{Global, get_or}
use Rattle.std.specs.Prelude.{IfSome, IsSome, is_some}
use Rattle.std.proofs.lemmas.Bool.{cases_eq, false≢true}
use Rattle.std.proofs.lemmas.List.{get_or_default}
use Rattle.std.specs.declared.sync.Arc.{Arc}
use Rattle.std.specs.Arc.{arc_value}
use Rattle.plan_ir.specs.Plans.{inputs_at}
use Rattle.plan_ir.specs.declared.values.Value.{Value}
use Rattle.step_scheduler.specs.declared.progress.Progress.{Progress}
use Rattle.step_scheduler.specs.declared.progress.Progress.TheVariants.{Waiting, Taken, Done}
use Rattle.step_scheduler.specs.Jobs.{JobView, inputs_for, meaning_at}
use Rattle.step_scheduler.specs.near.Steps.{is_done, progress_at, CanStart}
use Rattle.step_scheduler.specs.near.Slots.{Slot, value_in, slot_at, value_at, StoresMeanings, AreRight, CanBeGiven}
use Rattle.step_scheduler.proofs.BoardLemmas.{map_same}

-- storing the meaning of step k keeps all stored values correct
pub stores_more : (job : JobView) (slots : List Slot) (k : ℕ) (v : Arc Value Global) → k < length slots
    → StoresMeanings job slots → arc_value v ≡ meaning_at job k → StoresMeanings job (slice_set slots k (Some v))
stores_more job slots k v at means right j some =
    elim (cases_eq j k) [
      | inl same ↦
          subst (λ (x : ℕ). value_at (slice_set slots k (Some v)) x ≡ meaning_at job x) (sym same)
          (ap value_in (get_or-set_same slots k (Some v) None at) ∙ right)
      | inr other ↦
          let same_place = get_or-set_other slots k j (Some v) None other in
          ap value_in same_place ∙ means j (ap is_some (sym same_place) ∙ some)
    ]

-- changing step k does not change whether another step is done
done_other : (steps : List Progress) (k j : ℕ) (p : Progress) → (j ≡ k → ⊥)
    → is_done (progress_at (slice_set steps k p) j) ≡ true → is_done (progress_at steps j) ≡ true
done_other steps k j p other done = ap is_done (sym (get_or-set_other steps k j p Waiting other)) ∙ done

done_taken : (steps : List Progress) (k j : ℕ) → k < length steps
    → is_done (progress_at (slice_set steps k Taken) j) ≡ true → is_done (progress_at steps j) ≡ true
done_taken steps k j h done =
    elim (cases_eq j k) [
      | inl same ↦
          let never : is_done (progress_at (slice_set steps k Taken) j) ≡ false =
          ap (λ (x : ℕ). is_done (progress_at (slice_set steps k Taken) x)) same
          ∙ ap is_done (get_or-set_same steps k Taken Waiting h) in
          absurd (false≢true (sym never ∙ done))
      | inr other ↦ done_other steps k j Taken other done
    ]

module _ (job : JobView) (steps : List Progress) (slots : List Slot) (values : AreRight job steps slots) where
  -- a step that can start can be handed out with its inputs
  pub can_be_given : (k : ℕ) → CanStart job.set.plan steps k → CanBeGiven job slots k
  can_be_given k s = record {
    in_range = s.in_range;
    long = values.long;
    means = values.means;
    stored = λ i d l. values.here _ (s.fed i d l);
  }

  -- the values are still correct after step k is handed out
  pub right_after_take : (k : ℕ) → k < length steps → AreRight job (slice_set steps k Taken) slots
  right_after_take k h = record {
    long = values.long;
    means = values.means;
    here = λ j done. values.here j (done_taken steps k j h done);
  }

  -- the values are still correct after step k gets its value
  pub right_after_finish : (k : ℕ) (v : Arc Value Global) → k < length slots → arc_value v ≡ meaning_at job k
      → AreRight job (slice_set steps k Done) (slice_set slots k (Some v))
  right_after_finish k v at right = record {
    long = length-set slots k (Some v) ∙ values.long;
    means = stores_more job slots k v at values.means right;
    here = λ j done. elim (cases_eq j k) [
      | inl same ↦
          ap (λ (x : ℕ). is_some (slot_at (slice_set slots k (Some v)) x)) same
          ∙ ap is_some (get_or-set_same slots k (Some v) None at)
      | inr other ↦
          ap is_some (get_or-set_other slots k j (Some v) None other) ∙ values.here j (done_other steps k j Done other done)
    ];
  }

-- the stored values of a step's inputs are the meanings of the inputs
pub given_inputs : (job : JobView) (slots : List Slot) (k : ℕ) → CanBeGiven job slots k
    → map (value_at slots) (inputs_at job.set.plan k) ≡ inputs_for job k
given_inputs job slots k can = map_same _ _ _ (λ i d l. can.means _ (can.stored i d l))

-- if a step's own value is found, it is the step's meaning
pub found_means : (job : JobView) (slots : List Slot) (k : ℕ) → CanBeGiven job slots k → (slot : Slot)
    → slot ≡ get_or slots k slot → (hold : Slot) → IfSome hold (λ v. IsSome slot × (arc_value v ≡ value_in slot))
    → IfSome hold (λ v. arc_value v ≡ meaning_at job k)
found_means job slots k can slot read None h = tt
found_means job slots k can slot read (Some v) h =
    let same : slot ≡ slot_at slots k =
    read ∙ get_or_default slots k slot None (let l = can.long in let r = can.in_range in omega arith) in
    h.1 ∙ ap value_in same ∙ can.means k (ap is_some (sym same) ∙ h.0)

-- a new board

pub waiting_at : (n k : ℕ) → progress_at (replicate n Waiting) k ≡ Waiting
waiting_at zero k = refl
waiting_at (suc n) zero = refl
waiting_at (suc n) (suc k) = waiting_at n k

pub right_at_first : (job : JobView) (n : ℕ) (slots : List Slot) → length slots ≡ length job.set.plan
    → StoresMeanings job slots → AreRight job (replicate n Waiting) slots
right_at_first job n slots long means = record {
  long = long;
  means = means;
  here = λ k done. absurd (false≢true (sym (ap is_done (waiting_at n k)) ∙ done));
}
