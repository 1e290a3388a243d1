-- The counters of a board are correct after each event.
use Rattle.std.proofs.Common.{◌≡◌, ℕ, zero, suc, ◌+◌, ◌<◌, ◌≤◌, ◌==◌, Bool, true, false}
use Rattle.std.proofs.Common.{List, [], ◌∷◌, ◌++◌, length, All, refl, sym, ap, ◌∙◌, subst, inl, inr}
use Rattle.std.proofs.Common.{arith, slice_index, slice_set, replicate, if◌then◌else◌, eq-eqb, zero-add}
use Rattle.std.proofs.Common.{add-zero, length-append, get_or-set_same, get_or-set_other, Global, ◌*◌, sum_by, Some}
use Rattle.std.specs.Prelude.{IsSome}
use Rattle.std.proofs.lemmas.List.Sums.{sum_by-cons}
use Rattle.std.proofs.lemmas.Bool.{cases_eq, ne_eqb, false≢true, lt-ltb}
use Rattle.std.proofs.lemmas.List.{get_or_append_left, length-replicate}
use Rattle.std.proofs.lemmas.List.Elements.{All-cons, All-nil, All-head, All-tail}
use Rattle.std.specs.declared.sync.Arc.{Arc}
use Rattle.plan_ir.specs.Plans.{StepView, inputs_at, users_of}
use Rattle.plan_ir.specs.declared.values.Value.{Value}
use Rattle.step_scheduler.specs.declared.progress.Progress.{Progress}
use Rattle.step_scheduler.specs.declared.progress.Progress.TheVariants.{Waiting, Taken, Done}
use Rattle.step_scheduler.specs.near.Steps.{was_taken, is_done, events_of, progress_at, AreDone, CanStart}
use Rattle.plan_compiler.specs.near.Beginnings.{times, AreInputCounts, AreWithoutInputs}
use Rattle.step_scheduler.specs.near.Counts.{open_inputs, ready_times, freed_times, CanBeReleased, CountsSteps, Released}
use Rattle.std.specs.Arc.{arc_value}
use Rattle.plan_compiler.specs.Compiled.{Fits, IsCompiled}
use Rattle.step_scheduler.specs.Jobs.{JobView, meaning_at}
use Rattle.step_scheduler.specs.Runs.{IsReady, AllFinished, is_finished, unfinished}
use Rattle.step_scheduler.specs.near.Stepped.{IsStepped}
use Rattle.step_scheduler.specs.declared.events.Event.{Event}
use Rattle.step_scheduler.specs.declared.events.Event.TheVariants.{Take, Finish}
use Rattle.step_scheduler.proofs.BoardLemmas.{board_takes, board_finishes, waiting_not_done}
use Rattle.step_scheduler.specs.near.Slots.{Slot, slot_at, StoresMeanings}
use Rattle.step_scheduler.proofs.Slots.{right_after_take, right_after_finish, right_at_first, waiting_at}
use Rattle.plan_compiler.proofs.CounterLemmas.{times_push_same, times_push_other}
use Rattle.step_scheduler.proofs.UserLemmas.{HasUsers, has_users}

open_same : (steps steps' : List Progress) → ((i : ℕ) → is_done (progress_at steps' i) ≡ is_done (progress_at steps i))
    → (is : List ℕ) → open_inputs steps' is ≡ open_inputs steps is
open_same steps steps' e [] = refl
open_same steps steps' e (i ∷ is) =
    ap (λ b. (if b then 0 else 1) + open_inputs steps' is) (e i)
    ∙ ap (λ n. (if is_done (progress_at steps i) then 0 else 1) + n) (open_same steps steps' e is)

open_head : (b : Bool) (n : ℕ) → (if b then 0 else 1) + n ≡ 0 → (b ≡ true) × (n ≡ 0)
open_head true n e = (refl, omega arith)
open_head false n e = absurd (omega arith)

open_none : (steps : List Progress) (is : List ℕ) → open_inputs steps is ≡ 0 → AreDone steps is
open_none steps [] e = All-nil (λ i. is_done (progress_at steps i) ≡ true)
open_none steps (i ∷ is) e =
    let head = open_head (is_done (progress_at steps i)) (open_inputs steps is) e in
    All-cons (λ i. is_done (progress_at steps i) ≡ true) i is head.0 (open_none steps is head.1)

none_open : (steps : List Progress) (is : List ℕ) → AreDone steps is → open_inputs steps is ≡ 0
none_open steps [] all = refl
none_open steps (i ∷ is) all =
    let done = All-head (λ i. is_done (progress_at steps i) ≡ true) i is all in
    rw done (zero-add _ ∙ none_open steps is (All-tail (λ i. is_done (progress_at steps i) ≡ true) i is all))

-- when step j gets its value, the open inputs fall by the number of times that j is an input
open_done : (steps : List Progress) (j : ℕ) → j < length steps → is_done (progress_at steps j) ≡ false
    → (is : List ℕ) → open_inputs (slice_set steps j Done) is + times j is ≡ open_inputs steps is
open_done steps j h open_j [] = refl
open_done steps j h open_j (i ∷ is) =
    let rest = open_done steps j h open_j is in
    elim (cases_eq i j) [
      | inl same ↦
          subst (λ (x : ℕ). ((if is_done (progress_at (slice_set steps j Done) x) then 0 else 1) + open_inputs
          (slice_set steps j Done) is) + ((if x == j then 1 else 0) + times j is) ≡
          (if is_done (progress_at steps x) then 0 else 1) + open_inputs steps is) (sym same)
          (rw (get_or-set_same steps j Done Waiting h, eq-eqb j j refl, open_j) (omega arith))
      | inr other ↦ rw (get_or-set_other steps j i Done Waiting other, ne_eqb i j other) (omega arith)
    ]

-- a step without a value counts as an open input as often as it is an input
open_still : (steps : List Progress) (j : ℕ) → j < length steps → is_done (progress_at steps j) ≡ false
    → (is : List ℕ) → times j is ≤ open_inputs steps is
open_still steps j h open_j [] = omega arith
open_still steps j h open_j (i ∷ is) =
    let rest = open_still steps j h open_j is in
    elim (cases_eq i j) [
      | inl same ↦ subst (λ (x : ℕ). (if x == j then 1 else 0) + times j is ≤
          (if is_done (progress_at steps x) then 0 else 1) + open_inputs steps is) (sym same)
          (rw (eq-eqb j j refl, open_j) (omega arith))
      | inr other ↦ rw (ne_eqb i j other) (omega arith)
    ]

-- sums over the numbers below n, for counting the elements of lists

abbrev total : (ℕ → ℕ) → ℕ → ℕ
total f zero = 0
total f (suc n) = total f n + f n

total_none : (n : ℕ) → total (λ k. 0) n ≡ 0
total_none zero = refl
total_none (suc n) = rw (total_none n) refl

total_other : (x n : ℕ) → n ≤ x → total (λ k. if x == k then 1 else 0) n ≡ 0
total_other x zero h = refl
total_other x (suc n) h = rw (ne_eqb x n (λ e. absurd (omega arith))) (let t = total_other x n (omega arith) in omega arith)

total_one : (x n : ℕ) → x < n → total (λ k. if x == k then 1 else 0) n ≡ 1
total_one x zero h = absurd (omega arith)
total_one x (suc n) h =
    elim (cases_eq x n) [
      | inl same ↦ rw (eq-eqb x n same) (ap (λ m. m + 1) (total_other x n (omega arith)))
      | inr other ↦ rw (ne_eqb x n other) (let t = total_one x n (omega arith) in omega arith)
    ]

total_plus : (f g : ℕ → ℕ) (n : ℕ) → total (λ k. f k + g k) n ≡ total f n + total g n
total_plus f g zero = refl
total_plus f g (suc n) = let t = total_plus f g n in omega arith

total_le : (f : ℕ → ℕ) (n : ℕ) → ((k : ℕ) → k < n → f k ≤ 1) → total f n ≤ n
total_le f zero h = omega arith
total_le f (suc n) h = let t = total_le f n (λ k l. h k (omega arith)) in let here = h n (omega arith) in omega arith

-- the length of a list of numbers below n is the sum of how often each number occurs in it
count_all : (n : ℕ) (xs : List ℕ) → All (λ x. x < n) xs → length xs ≡ total (λ k. times k xs) n
count_all n [] all = sym (total_none n)
count_all n (x ∷ xs) all =
    let one = total_one x n (All-head (λ y. y < n) x xs all) in
    let rest = count_all n xs (All-tail (λ y. y < n) x xs all) in
    let both = total_plus (λ k. if x == k then 1 else 0) (λ k. times k xs) n in
    omega arith

-- two lists of numbers below n have at most n elements together if each number occurs at most once in both lists
-- together
pub fits_together : (n : ℕ) (xs ys : List ℕ) → All (λ x. x < n) xs → All (λ x. x < n) ys
    → ((k : ℕ) → k < n → times k xs + times k ys ≤ 1) → length xs + length ys ≤ n
fits_together n xs ys all_xs all_ys once =
    let a = count_all n xs all_xs in
    let b = count_all n ys all_ys in
    let both = total_plus (λ k. times k xs) (λ k. times k ys) n in
    let le = total_le (λ k. times k xs + times k ys) n once in
    omega arith

ready_of : (taken : Bool) (missing : ℕ) → 0 < ready_times taken missing → (taken ≡ false) × (missing ≡ 0)
ready_of true missing h = absurd (omega arith)
ready_of false m h = elim (cases_eq m 0) [
  | inl same ↦ (refl, same)
  | inr other ↦ let never = rw (ne_eqb m 0 other) at h in
      absurd (omega arith)
]

listed_after : (taken : Bool) (m m' t : ℕ) → m' + t ≡ m → (taken ≡ true → m ≡ 0)
    → ready_times taken m + freed_times t m' ≡ ready_times taken m'
listed_after true m m' t e fed = let z = fed refl in let none : t ≡ 0 = omega arith in rw none refl
listed_after false m m' t e fed =
    elim (cases_eq t 0) [
      | inl same ↦ let eq : m ≡ m' = omega arith in rw (same, eq) (add-zero _)
      | inr other ↦ let some : m ≡ 0 → ⊥ = (λ z. other (omega arith)) in rw (ne_eqb t 0 other, ne_eqb m 0 some) (zero-add _)
    ]

module _ (plan : List StepView) (steps : List Progress) (missing : List ℕ) (long : length steps ≡ length plan) where
  -- a step in the list can start
  pub listed_starts : (ready : List ℕ) (capacity k : ℕ) → CountsSteps plan steps missing ready capacity → k < length plan
      → 0 < times k ready → CanStart plan steps k
  listed_starts ready capacity k c h l =
      let r = ready_of (was_taken (progress_at steps k)) (slice_index missing k) (let e = c.listed k h in omega arith) in
      record { in_range = h; waits = r.0; fed = open_none steps (inputs_at plan k) (sym (c.missing_is k h) ∙ r.1) }

  -- if the list is empty, no step can start
  pub empty_none : (capacity : ℕ) → CountsSteps plan steps missing [] capacity → (k : ℕ) → CanStart plan steps k → ⊥
  empty_none capacity c k s =
      let none = c.missing_is k s.in_range ∙ none_open steps (inputs_at plan k) s.fed in
      let listed = rw (s.waits, none) at (c.listed k s.in_range) in
      absurd (omega arith)

  -- the counters after the last step of the list was handed out
  pub counted_takes : (rest : List ℕ) (capacity k : ℕ) → CountsSteps plan steps missing (rest ++ k ∷ []) capacity
      → k < length plan → was_taken (progress_at steps k) ≡ false → slice_index missing k ≡ 0
      → is_done (progress_at steps k) ≡ false → CountsSteps plan (slice_set steps k Taken) missing rest capacity
  counted_takes rest capacity k c h waits none open_k =
      let in_steps : k < length steps = omega arith in
      let same_done : (i : ℕ) → is_done (progress_at (slice_set steps k Taken) i) ≡ is_done (progress_at steps i) =
      λ i. elim (cases_eq i k) [
        | inl same ↦ subst (λ (x : ℕ). is_done (progress_at (slice_set steps k Taken) x) ≡ is_done (progress_at steps x))
            (sym same) (rw (get_or-set_same steps k Taken Waiting in_steps) (sym open_k))
        | inr other ↦ ap is_done (get_or-set_other steps k i Taken Waiting other)
      ] in
      record {
        long = c.long;
        missing_is = λ j l. c.missing_is j l ∙ sym (open_same steps (slice_set steps k Taken) same_done (inputs_at plan j));
        fed = λ j l t. elim (cases_eq j k) [
          | inl same ↦ subst (λ (x : ℕ). slice_index missing x ≡ 0) (sym same) none
          | inr other ↦ c.fed j l (ap was_taken (sym (get_or-set_other steps k j Taken Waiting other)) ∙ t)
        ];
        in_range = λ i d l. rw (← get_or_append_left rest (k ∷ []) d i l)
            (c.in_range i d (omega (arith, length-append rest (k ∷ []))));
        listed = λ j l. elim (cases_eq j k) [
          | inl same ↦
              subst (λ (x : ℕ). times x rest ≡ ready_times (was_taken (progress_at (slice_set steps k Taken) x))
              (slice_index missing x)) (sym same)
              (rw (get_or-set_same steps k Taken Waiting in_steps) (let e =
              rw (waits, none, times_push_same k rest) at (c.listed k h) in omega arith))
          | inr other ↦
              rw (get_or-set_other steps k j Taken Waiting other) (sym (times_push_other j k rest (λ e. other (sym e))) ∙ c.listed j l)
        ];
        room = c.room;
      }

  -- the counters after a step got its value and its users were counted down
  pub counted_finishes : (ready missing' ready' : List ℕ) (capacity capacity' k : ℕ) → HasUsers plan
      → CountsSteps plan steps missing ready capacity → k < length plan → was_taken (progress_at steps k) ≡ true
      → is_done (progress_at steps k) ≡ false
      → Released (users_of plan k) missing missing' ready ready' capacity capacity'
      → CountsSteps plan (slice_set steps k Done) missing' ready' capacity'
  counted_finishes ready missing' ready' capacity capacity' k are c h taken_k open_k r =
      let in_steps : k < length steps = omega arith in
      let was : (j : ℕ) → was_taken (progress_at (slice_set steps k Done) j) ≡ was_taken (progress_at steps j) =
      λ j. elim (cases_eq j k) [
        | inl same ↦ subst (λ (x : ℕ). was_taken (progress_at (slice_set steps k Done) x) ≡ was_taken
            (progress_at steps x)) (sym same) (rw (get_or-set_same steps k Done Waiting in_steps) (sym taken_k))
        | inr other ↦ ap was_taken (get_or-set_other steps k j Done Waiting other)
      ] in
      record {
        long = r.long ∙ c.long;
        missing_is = λ j l.
            let a = open_done steps k in_steps open_k (inputs_at plan j) in
            let b = r.left j in
            let d = are.same k j l in
            let e = c.missing_is j l in
            omega arith;
        fed = λ j l t. let e = c.fed j l (sym (was j) ∙ t) in let b = r.left j in omega arith;
        in_range = r.in_range (length plan) (sym c.long) c.in_range;
        listed = λ j l. r.freed j ∙ ap (λ n. n + freed_times (times j (users_of plan k)) (slice_index missing' j))
            (c.listed j l) ∙ listed_after (was_taken (progress_at steps j)) _ _ _ (r.left j) (c.fed j l)
            ∙ ap (λ b. ready_times b (slice_index missing' j)) (sym (was j));
        room = let e = r.same_room in let a = c.room in omega arith;
      }

times_in_range : (n k : ℕ) (xs : List ℕ) → All (λ x. x < n) xs → 0 < times k xs → k < n
times_in_range n k [] all h = absurd (omega arith)
times_in_range n k (x ∷ xs) all h =
    elim (cases_eq x k) [
      | inl same ↦ let l = All-head (λ y. y < n) x xs all in omega arith
      | inr other ↦ times_in_range n k xs (All-tail (λ y. y < n) x xs all) (let e = rw (ne_eqb x k other) at h in omega arith)
    ]

ready_times_le : (taken : Bool) (m : ℕ) → ready_times taken m ≤ 1
ready_times_le true m = omega arith
ready_times_le false m = elim (cases_eq m 0) [ inl same ↦ rw same (omega arith) | inr other ↦ rw (ne_eqb m 0 other) (omega arith) ]

ready_times_some : (taken : Bool) (m : ℕ) → 0 < m → ready_times taken m ≡ 0
ready_times_some true m h = refl
ready_times_some false m h = rw (ne_eqb m 0 (λ e. absurd (omega arith))) refl

module _ (job : JobView) (steps : List Progress) (slots : List Slot) (history : List Event) (capacity : ℕ) (missing : List ℕ) where
  -- the last step of the list can start
  pub last_starts : (ready rest : List ℕ) (ready_capacity k : ℕ)
      → IsStepped job steps slots history capacity missing ready ready_capacity → ready ≡ rest ++ k ∷ []
      → CanStart job.set.plan steps k
  last_starts ready rest ready_capacity k b e =
      let some : 0 < times k ready = let t = ap (times k) e ∙ times_push_same k rest in omega arith in
      listed_starts job.set.plan steps missing b.board.long ready ready_capacity k b.counted
      (times_in_range _ k ready b.counted.in_range some) some

  -- if the list is empty, no step is ready
  pub none_starts : (ready : List ℕ) (ready_capacity : ℕ)
      → IsStepped job steps slots history capacity missing ready ready_capacity → ready ≡ [] → (k : ℕ)
      → IsReady job.set.plan history k → ⊥
  none_starts ready ready_capacity b e k r =
      empty_none job.set.plan steps missing b.board.long ready_capacity
      (subst (λ (xs : List ℕ). CountsSteps job.set.plan steps missing xs ready_capacity) e b.counted) k (record {
        in_range = r.in_range;
        waits = sym (b.board.taken k) ∙ r.fresh;
        fed = λ i d l. sym (b.board.finished _) ∙ r.fed i d l;
      })

  module _ (ready : List ℕ) (ready_capacity j : ℕ)
      (b : IsStepped job steps slots history capacity missing ready ready_capacity) (h : j < length steps)
      (open_j : is_done (progress_at steps j) ≡ false) where
    in_plan : j < length job.set.plan
    in_plan = let l = b.board.long in omega arith

    -- each user of a step without a value misses at least one input
    users_miss : (k : ℕ) → 0 < times k (users_of job.set.plan j) → 0 < slice_index missing k
    users_miss k some =
        let range = times_in_range (length job.set.plan) k (users_of job.set.plan j) ((has_users _ b.board.compiled).in_range j) some in
        let same = (has_users _ b.board.compiled).same j k range in
        let is = b.counted.missing_is k range in
        let less = open_still steps j h open_j (inputs_at job.set.plan k) in
        omega arith

    -- the list has room for the users of a step without a value
    users_fit : length ready + length (users_of job.set.plan j) ≤ ready_capacity
    users_fit =
        let all = fits_together (length job.set.plan) ready (users_of job.set.plan j) b.counted.in_range
        ((has_users _ b.board.compiled).in_range j) (λ k l.
        let listed = b.counted.listed k l in
        let once = (has_users _ b.board.compiled).once j k in
        elim (cases_eq (times k (users_of job.set.plan j)) 0) [
          | inl none ↦ let le = ready_times_le (was_taken (progress_at steps k)) (slice_index missing k) in omega arith
          | inr other ↦ let z = ready_times_some (was_taken (progress_at steps k)) (slice_index missing k)
              (users_miss k (omega arith)) in omega arith
        ]) in
        let room = b.counted.room in
        omega arith

    -- the users of a step without a value can be counted down
    pub users_can_be_released : CanBeReleased (users_of job.set.plan j) missing ready ready_capacity
    users_can_be_released =
        let users = has_users _ b.board.compiled in
        record {
          in_range = rw b.counted.long (users.in_range j);
          once = users.once j;
          positive = users_miss;
          room = users_fit;
        }

  pub board_takes_last : (ready rest : List ℕ) (ready_capacity k : ℕ)
      → IsStepped job steps slots history capacity missing ready ready_capacity → ready ≡ rest ++ k ∷ []
      → IsStepped job (slice_set steps k Taken) slots (history ++ Take k ∷ []) capacity missing rest ready_capacity
  board_takes_last ready rest ready_capacity k b e =
      let s = last_starts ready rest ready_capacity k b e in
      record {
        board = board_takes job steps history capacity k b.board s;
        values = right_after_take job steps slots b.values k (let l = b.board.long in let r = s.in_range in omega arith);
        counted = counted_takes job.set.plan steps missing b.board.long rest ready_capacity k
            (subst (λ (xs : List ℕ). CountsSteps job.set.plan steps missing xs ready_capacity) e b.counted) s.in_range s.waits
            (b.counted.missing_is k s.in_range ∙ none_open steps (inputs_at job.set.plan k) s.fed) (waiting_not_done _ s.waits);
      }

  pub board_finishes_and_releases : (ready missing' ready' : List ℕ) (ready_capacity ready_capacity' k : ℕ)
      (v : Arc Value Global) → IsStepped job steps slots history capacity missing ready ready_capacity
      → k < length steps → was_taken (progress_at steps k) ≡ true → is_done (progress_at steps k) ≡ false
      → arc_value v ≡ meaning_at job k
      → Released (users_of job.set.plan k) missing missing' ready ready' ready_capacity ready_capacity'
      → IsStepped job (slice_set steps k Done) (slice_set slots k (Some v))
      (history ++ Finish k ∷ []) capacity missing' ready' ready_capacity'
  board_finishes_and_releases ready missing' ready' ready_capacity ready_capacity' k v b h taken_k open_k right r = record {
    board = board_finishes job steps history capacity k b.board h taken_k open_k;
    values = right_after_finish job steps slots b.values k v (let l = b.board.long in let m = b.values.long in omega arith) right;
    counted = counted_finishes job.set.plan steps missing b.board.long ready missing' ready' ready_capacity ready_capacity' k
        (has_users _ b.board.compiled) b.counted (let l = b.board.long in omega arith) taken_k open_k r;
  }

nothing_done : (n i : ℕ) → is_done (progress_at (replicate n Waiting) i) ≡ false
nothing_done n i = ap is_done (waiting_at n i)

nothing_taken : (n i : ℕ) → was_taken (progress_at (replicate n Waiting) i) ≡ false
nothing_taken n i = ap was_taken (waiting_at n i)

no_events : (n : ℕ) → sum_by events_of (replicate n Waiting) ≡ 0
no_events zero = refl
no_events (suc n) = rw sum_by-cons (zero-add _ ∙ no_events n)

-- a new board
pub board_new : (job : JobView) (n : ℕ) (slots : List Slot) (capacity : ℕ) (missing ready : List ℕ) (ready_capacity : ℕ)
    → IsCompiled job.set → Fits job.set.tables (job.portfolio).holdings → n ≡ length job.set.plan → 2 * n ≤ capacity
    → length slots ≡ length job.set.plan → StoresMeanings job slots
    → CountsSteps job.set.plan (replicate (length job.set.plan) Waiting) missing ready ready_capacity
    → IsStepped job (replicate n Waiting) slots [] capacity missing ready ready_capacity
board_new job n slots capacity missing ready ready_capacity compiled fits is_n room long means counted = record {
  board = record {
    compiled = compiled;
    fits = fits;
    long = length-replicate n Waiting ∙ is_n;
    run = tt;
    taken = λ k. sym (nothing_taken n k);
    finished = λ k. sym (nothing_done n k);
    count = no_events n;
    room = rw (length-replicate n Waiting) room;
  };
  values = right_at_first job n slots long means;
  counted = rw is_n counted;
}

-- the inputs without a value are exactly the inputs that are not finished
pub open_is_unfinished : (steps : List Progress) (history : List Event)
    → ((k : ℕ) → is_finished history k ≡ is_done (progress_at steps k)) → (is : List ℕ)
    → open_inputs steps is ≡ unfinished history is
open_is_unfinished steps history same [] = refl
open_is_unfinished steps history same (i ∷ is) =
    ap (λ b. (if b then 0 else 1) + open_inputs steps is) (sym (same i))
    ∙ ap (λ n. (if is_finished history i then 0 else 1) + n) (open_is_unfinished steps history same is)

-- if all steps are finished, each step's value is stored
pub stored_when_complete : (job : JobView) (steps : List Progress) (slots : List Slot) (history : List Event) (capacity : ℕ)
    (missing ready : List ℕ) (ready_capacity j : ℕ) → IsStepped job steps slots history capacity missing ready ready_capacity
    → AllFinished job.set.plan history → j < length job.set.plan → IsSome (slot_at slots j)
stored_when_complete job steps slots history capacity missing ready ready_capacity j b all h =
    b.values.here j (sym (b.board.finished j) ∙ all j h)

open_all : (n : ℕ) (is : List ℕ) → open_inputs (replicate n Waiting) is ≡ length is
open_all n [] = refl
open_all n (i ∷ is) = rw (nothing_done n i, open_all n is) (omega arith)

-- the counters and the list of a plan in which no step was taken
pub counters_all : (plan : List StepView) (missing ready : List ℕ) (capacity : ℕ)
    → AreInputCounts plan missing (length plan) → AreWithoutInputs plan ready (length plan) → length plan ≤ capacity
    → CountsSteps plan (replicate (length plan) Waiting) missing ready capacity
counters_all plan missing ready capacity counts without room = record {
  long = counts.long;
  missing_is = λ k h. counts.counts k h ∙ sym (open_all (length plan) (inputs_at plan k));
  fed = λ k h t. absurd (false≢true (sym (nothing_taken (length plan) k) ∙ t));
  in_range = without.in_range;
  listed = λ k h. without.listed k ∙ rw (lt-ltb k (length plan) h, nothing_taken (length plan) k, counts.counts k h) refl;
  room = room;
}
