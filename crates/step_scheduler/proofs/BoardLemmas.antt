-- The invariant of a board is kept by each event.
use Rattle.std.specs.Prelude.{◌↔◌}
use Rattle.std.proofs.Common.{◌≡◌, ℕ, zero, suc, ◌*◌, ◌<◌, ◌≤◌, ◌||◌, Bool, true, false}
use Rattle.std.proofs.Common.{List, [], ◌∷◌, ◌++◌, length, refl, ap, ◌∙◌, sym, subst, inl, inr, arith}
use Rattle.std.proofs.Common.{slice_set, slice_index_or, sum_by, map, get_or-set_same, get_or-set_other, length-append, length-set, eq-eqb}
use Rattle.std.proofs.lemmas.Bool.{cases_eq, ne_eqb, true_from_ne_false, false≢true, or_right}
use Rattle.std.proofs.lemmas.List.Sums.{sum_by-set, sum_by-cons}
use Rattle.step_scheduler.specs.Jobs.{JobView}
use Rattle.step_scheduler.specs.declared.events.Event.{Event}
use Rattle.step_scheduler.specs.declared.events.Event.TheVariants.{Take, Finish}
use Rattle.step_scheduler.specs.declared.progress.Progress.{Progress}
use Rattle.step_scheduler.specs.declared.progress.Progress.TheVariants.{Waiting, Taken, Done}
use Rattle.step_scheduler.specs.Runs.{takes, finishes, is_taken, is_finished, IsReady}
use Rattle.step_scheduler.specs.near.Steps.{was_taken, is_done, events_of, progress_at, CanStart}
use Rattle.step_scheduler.specs.Boards.{IsComplete}
use Rattle.step_scheduler.specs.near.Stepped.{IsRunBoard}
use Rattle.step_scheduler.proofs.Histories.{is_taken-push, is_finished-push, run_push}

events_le : (p : Progress) → events_of p ≤ 2
events_le Waiting = omega arith
events_le Taken = omega arith
events_le Done = omega arith

events_open : (p : Progress) → is_done p ≡ false → events_of p ≤ 1
events_open Waiting e = omega arith
events_open Taken e = omega arith
events_open Done e = absurd (false≢true (sym e))

events_done : (p : Progress) → is_done p ≡ true → events_of p ≡ 2
events_done Waiting e = absurd (false≢true e)
events_done Taken e = absurd (false≢true e)
events_done Done e = refl

sum_le : (steps : List Progress) → sum_by events_of steps ≤ 2 * length steps
sum_le [] = omega arith
sum_le (s ∷ ss) = rw sum_by-cons (omega (arith, events_le s, sum_le ss))

sum_open : (steps : List Progress) (k : ℕ) → k < length steps → is_done (progress_at steps k) ≡ false
    → sum_by events_of steps < 2 * length steps
sum_open [] k h open_k = omega arith
sum_open (s ∷ ss) zero h open_k = rw sum_by-cons (omega (arith, events_open s open_k, sum_le ss))
sum_open (s ∷ ss) (suc k) h open_k = let l : k < length ss = omega arith in
    rw sum_by-cons (omega (arith, events_le s, sum_open ss k l open_k))

sum_done : (steps : List Progress) → ((k : ℕ) → k < length steps → is_done (progress_at steps k) ≡ true)
    → sum_by events_of steps ≡ 2 * length steps
sum_done [] all = refl
sum_done (s ∷ ss) all =
    rw sum_by-cons (omega (arith, events_done s (all 0 (omega arith)), sum_done ss (λ k h. all (suc k) (omega (arith, h)))))

-- all steps have their values exactly if the history has two events for each step
pub all_done_sum : (steps : List Progress) → (sum_by events_of steps ≡ 2 * length steps)
    ↔ ((k : ℕ) → k < length steps → is_done (progress_at steps k) ≡ true)
all_done_sum steps = (
  (λ e k h. true_from_ne_false _ (λ open_k. absurd (let s = sum_open steps k h open_k in omega (arith, s, e)))),
  sum_done steps,
)

-- while a step has no value, the history has room for an event
pub has_room : (job : JobView) (steps : List Progress) (history : List Event) (capacity k : ℕ)
    → IsRunBoard job steps history capacity → k < length steps → is_done (progress_at steps k) ≡ false
    → length history < capacity
has_room job steps history capacity k b h open_k =
    let s = sum_open steps k h open_k in omega (arith, b.count, b.room)

-- the steps after one of them changed

progress-set_same : (steps : List Progress) (k : ℕ) (p : Progress) → k < length steps → progress_at (slice_set steps k p) k ≡ p
progress-set_same steps k p h = get_or-set_same steps k p Waiting h

progress-set_other : (steps : List Progress) (k j : ℕ) (p : Progress) → (k ≡ j → ⊥)
    → progress_at (slice_set steps k p) j ≡ progress_at steps j
progress-set_other steps k j p n = get_or-set_other steps k j p Waiting (λ e. n (sym e))

or_false : (a b : Bool) → b ≡ false → (a || b) ≡ a
or_false true b e = refl
or_false false b e = e

-- a test of the steps and a test of the history still agree after an event e that changes step k to p
module _ (of_event : Event → ℕ → Bool) (of_history : List Event → ℕ → Bool) (of_step : Progress → Bool) where
  agree_after : ((history : List Event) (e : Event) (k : ℕ) → of_history (history ++ e ∷ []) k ≡
      (of_history history k || of_event e k)) → (steps : List Progress) (history : List Event) (e : Event) (k : ℕ)
      (p : Progress) → k < length steps → ((j : ℕ) → of_history history j ≡ of_step (progress_at steps j))
      → (of_history history k || of_event e k) ≡ of_step p → ((j : ℕ) → (k ≡ j → ⊥) → of_event e j ≡ false)
      → (j : ℕ) → of_history (history ++ e ∷ []) j ≡ of_step (progress_at (slice_set steps k p) j)
  agree_after push steps history e k p h agree here there j =
      let at_k : of_history (history ++ e ∷ []) k ≡ of_step (progress_at (slice_set steps k p) k) =
      push history e k ∙ here ∙ ap of_step (sym (progress-set_same steps k p h)) in
      elim (cases_eq k j) [
        | inl same ↦ subst (λ (i : ℕ). of_history (history ++ e ∷ []) i ≡ of_step (progress_at (slice_set steps k p) i)) same at_k
        | inr other ↦
            push history e j ∙ or_false _ _ (there j other) ∙ agree j ∙ ap of_step (sym (progress-set_other steps k j p other))
      ]

waiting_no_events : (p : Progress) → was_taken p ≡ false → events_of p ≡ 0
waiting_no_events Waiting e = refl
waiting_no_events Taken e = absurd (false≢true (sym e))
waiting_no_events Done e = absurd (false≢true (sym e))

pub waiting_not_done : (p : Progress) → was_taken p ≡ false → is_done p ≡ false
waiting_not_done Waiting e = refl
waiting_not_done Taken e = absurd (false≢true (sym e))
waiting_not_done Done e = absurd (false≢true (sym e))

under_way_one_event : (p : Progress) → was_taken p ≡ true → is_done p ≡ false → events_of p ≡ 1
under_way_one_event Waiting t e = absurd (false≢true t)
under_way_one_event Taken t e = refl
under_way_one_event Done t e = absurd (false≢true (sym e))

-- a step that can start is ready according to the history
pub ready_from_start : (job : JobView) (steps : List Progress) (history : List Event) (capacity k : ℕ)
    → IsRunBoard job steps history capacity → CanStart job.set.plan steps k → IsReady job.set.plan history k
ready_from_start job steps history capacity k b s = record {
  in_range = s.in_range;
  fresh = b.taken k ∙ s.waits;
  fed = λ i d l. b.finished _ ∙ s.fed i d l;
}

-- the invariant after the board handed out step k
pub board_takes : (job : JobView) (steps : List Progress) (history : List Event) (capacity k : ℕ)
    → IsRunBoard job steps history capacity → CanStart job.set.plan steps k
    → IsRunBoard job (slice_set steps k Taken) (history ++ Take k ∷ []) capacity
board_takes job steps history capacity k b s =
    let h : k < length steps = let r = s.in_range in omega (arith, b.long) in
    record {
      compiled = b.compiled;
      fits = b.fits;
      long = length-set steps k Taken ∙ b.long;
      run = run_push job.set.plan [] history (Take k) b.run (ready_from_start job steps history capacity k b s);
      taken = agree_after takes is_taken was_taken is_taken-push steps history (Take k) k Taken h b.taken
          (or_right _ _ (eq-eqb k k refl)) (λ j n. ne_eqb k j n);
      finished = agree_after finishes is_finished is_done is_finished-push steps history (Take k) k Taken h b.finished
          (or_false _ _ refl ∙ b.finished k ∙ waiting_not_done _ s.waits) (λ j n. refl);
      count = let c = b.count in let w = waiting_no_events _ s.waits in let t = sum_by-set events_of steps k Taken Waiting h in
          omega (arith, length-append history (Take k ∷ []));
      room = let r = b.room in omega (arith, length-set steps k Taken);
    }

-- the invariant after the board stored the value of step k
pub board_finishes : (job : JobView) (steps : List Progress) (history : List Event) (capacity k : ℕ)
    → IsRunBoard job steps history capacity → k < length steps → was_taken (progress_at steps k) ≡ true
    → is_done (progress_at steps k) ≡ false → IsRunBoard job (slice_set steps k Done) (history ++ Finish k ∷ []) capacity
board_finishes job steps history capacity k b h taken_k open_k =
    record {
      compiled = b.compiled;
      fits = b.fits;
      long = length-set steps k Done ∙ b.long;
      run = run_push job.set.plan [] history (Finish k) b.run
          (record { taken = b.taken k ∙ taken_k; unfinished = b.finished k ∙ open_k });
      taken = agree_after takes is_taken was_taken is_taken-push steps history (Finish k) k Done h b.taken
          (or_false _ _ refl ∙ b.taken k ∙ taken_k) (λ j n. refl);
      finished = agree_after finishes is_finished is_done is_finished-push steps history (Finish k) k Done h b.finished
          (or_right _ _ (eq-eqb k k refl)) (λ j n. ne_eqb k j n);
      count = let c = b.count in let w = under_way_one_event _ taken_k open_k in let t =
          sum_by-set events_of steps k Done Waiting h in omega (arith, length-append history (Finish k ∷ []));
      room = let r = b.room in omega (arith, length-set steps k Done);
    }

pub start_has_room : (job : JobView) (steps : List Progress) (history : List Event) (capacity k : ℕ)
    → IsRunBoard job steps history capacity → CanStart job.set.plan steps k → length history < capacity
start_has_room job steps history capacity k b s =
    let r = s.in_range in let l = b.long in
    has_room job steps history capacity k b (omega arith) (waiting_not_done _ s.waits)

-- a board that has not failed is complete exactly if all its steps have their values
pub complete_where_done : (job : JobView) (steps : List Progress) (history : List Event) (capacity : ℕ) (failed : Bool)
    → IsRunBoard job steps history capacity → failed ≡ false
    → ((k : ℕ) → k < length steps → is_done (progress_at steps k) ≡ true)
    ↔ IsComplete (record { job = job; history = history; failed = failed })
complete_where_done job steps history capacity failed b live = (
  (λ all. record {
    live = live;
    finished = λ k h. b.finished k ∙ all k (let l = b.long in omega arith);
  }),
  (λ complete k h. sym (b.finished k) ∙ complete.finished k (let l = b.long in omega arith)),
)

pub map_same : {X Y : Type 0} (f g : X → Y) (xs : List X) → ((i : ℕ) (d : X) → i < length xs
    → f (slice_index_or xs i d) ≡ g (slice_index_or xs i d)) → map f xs ≡ map g xs
map_same f g [] h = refl
map_same f g (x ∷ xs) h = ap (λ y. y ∷ map f xs) (h 0 x (omega arith))
    ∙ ap (λ ys. g x ∷ ys) (map_same f g xs (λ i d l. h (suc i) d (omega arith)))
