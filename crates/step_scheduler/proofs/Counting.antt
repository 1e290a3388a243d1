-- Counting down the users of a finished step.
use Rattle.std.proofs.Common.{◌≡◌, ℕ, ◌+◌, ◌-◌, ◌<◌, ◌≤◌, List, [], ◌∷◌}
use Rattle.std.proofs.Common.{◌++◌, length, take, drop, reverse, refl, sym, ap, ◌∙◌, subst, inl, inr, arith}
use Rattle.std.proofs.Common.{get_or, slice_index, slice_set, get_or-set_same, get_or-set_other, length-append}
use Rattle.std.proofs.lemmas.Bool.{cases_eq, ne_eqb}
use Rattle.std.proofs.lemmas.List.{take_more, length-set, take-append-drop, get_or_default, get_or-reverse}
use Rattle.std.proofs.lemmas.List.{length-reverse, reverse-append, take_all}
use Rattle.std.proofs.lemmas.List.Elements.{All-push}
use Rattle.plan_compiler.specs.near.Beginnings.{times}
use Rattle.plan_compiler.proofs.CounterLemmas.{times-append, times_push_other, times_push_same}
use Rattle.step_scheduler.specs.near.Counts.{CanBeReleased, Released, freed_times}

times_take : (x n : ℕ) (ys : List ℕ) → times x (take n ys) ≤ times x ys
times_take x n ys = omega (arith, times-append x (take n ys) (drop n ys), ap (times x) (take-append-drop n ys))

times-reverse : (x : ℕ) (ys : List ℕ) → times x (reverse ys) ≡ times x ys
times-reverse x [] = refl
times-reverse x (y ∷ ys) =
    let split = ap (times x) (reverse-append (y ∷ []) ys) ∙ times-append x (reverse ys) (y ∷ []) in
    omega (arith, split, times-reverse x ys)

-- user u is the next one from the last to the first, and was not counted down before
pub record IsNextUser (users missing : List ℕ) (i u : ℕ) : Type 0 where
  pub more : take (i + 1) (reverse users) ≡ take i (reverse users) ++ u ∷ []
  pub fresh : times u (take i (reverse users)) ≡ 0
  pub in_range : u < length missing
  pub positive : 0 < slice_index missing u

pub next_user : (users missing ready : List ℕ) (capacity i u : ℕ) → CanBeReleased users missing ready capacity
    → i < length (reverse users) → u ≡ get_or (reverse users) i u → IsNextUser users missing i u
next_user users missing ready capacity i u can h is =
    let read : get_or (reverse users) i 0 ≡ u = get_or_default (reverse users) i 0 u h ∙ sym is in
    let more : take (i + 1) (reverse users) ≡ take i (reverse users) ++ u ∷ [] =
    take_more (reverse users) i 0 h ∙ ap (λ x. take i (reverse users) ++ x ∷ []) read in
    let counted = ap (times u) more ∙ times_push_same u (take i (reverse users)) in
    let most = times_take u (i + 1) (reverse users) in
    let same = times-reverse u users in
    let many = length-reverse users in
    let from = sym (get_or-reverse users i 0 (omega (arith, h, many))) ∙ read in
    let below = can.in_range (length users - 1 - i) 0 (omega (arith, h, many)) in
    record {
      more = more;
      fresh = omega (arith, counted, most, same, can.once u);
      in_range = omega (arith, from, below);
      positive = can.positive u (omega (arith, counted, most, same));
    }

module _ (us missing missing' ready ready' : List ℕ) (capacity capacity' u : ℕ)
    (done : Released us missing missing' ready ready' capacity capacity') (fresh : times u us ≡ 0) (h : u < length missing)
    (some : 0 < slice_index missing u) (n d : ℕ) (read : n ≡ get_or missing' u d) where
  pub at_u : n ≡ slice_index missing u
  at_u =
      let l = done.left u in
      let r = read ∙ get_or_default missing' u d 0 (let m = done.long in omega arith) in
      omega arith

  left_more : (k : ℕ) → slice_index (slice_set missing' u (n - 1)) k + times k
      (us ++ u ∷ []) ≡ slice_index missing k
  left_more k =
      elim (cases_eq u k) [
        | inl same ↦
            subst (λ (x : ℕ). slice_index (slice_set missing' u (n - 1)) x + times x
            (us ++ u ∷ []) ≡ slice_index missing x) same
            (let a = get_or-set_same missing' u (n - 1) 0 (let l = done.long in omega arith) in
            let e = at_u in
            omega (arith, times_push_same u us))
        | inr other ↦
            let a = get_or-set_other missing' u k (n - 1) 0 (λ e. other (sym e)) in
            let l = done.left k in
            omega (arith, times_push_other k u us other)
      ]

  pub released_and_freed : n - 1 ≡ 0 → Released (us ++ u ∷ []) missing
      (slice_set missing' u (n - 1)) ready (ready' ++ u ∷ []) capacity capacity'
  released_and_freed none = record {
    long = length-set missing' u (n - 1) ∙ done.long;
    left = left_more;
    freed = λ k. elim (cases_eq u k) [
      | inl same ↦
          subst (λ (x : ℕ). times x (ready' ++ u ∷ []) ≡ times x ready + freed_times (times x (us ++ u ∷ []))
          (slice_index (slice_set missing' u (n - 1)) x)) same
          (rw (
            times_push_same u ready',
            times_push_same u us,
            fresh,
            get_or-set_same missing' u (n - 1) 0 (let l = done.long in omega arith),
            none,
          ) (let f = rw fresh at (done.freed u) in omega arith))
      | inr other ↦
          rw (
            times_push_other k u ready' other,
            times_push_other k u us other,
            get_or-set_other missing' u k (n - 1) 0 (λ e. other (sym e)),
          ) (done.freed k)
    ];
    in_range = λ m e all. All-push (λ x. x < m) ready' u (done.in_range m e all) (omega arith);
    room = let r = done.room in omega (arith, length-append ready' (u ∷ []), length-append us (u ∷ []));
    same_room = done.same_room;
  }

  pub released_and_kept : (n - 1 ≡ 0 → ⊥)
      → Released (us ++ u ∷ []) missing (slice_set missing' u (n - 1)) ready ready' capacity capacity'
  released_and_kept some_left = record {
    long = length-set missing' u (n - 1) ∙ done.long;
    left = left_more;
    freed = λ k. elim (cases_eq u k) [
      | inl same ↦
          subst (λ (x : ℕ). times x ready' ≡ times x ready + freed_times (times x (us ++ u ∷ []))
          (slice_index (slice_set missing' u (n - 1)) x)) same
          (rw (
            times_push_same u us,
            fresh,
            get_or-set_same missing' u (n - 1) 0 (let l = done.long in omega arith),
            ne_eqb _ _ some_left,
          ) (let f = rw fresh at (done.freed u) in omega arith))
      | inr other ↦
          rw (times_push_other k u us other, get_or-set_other missing' u k (n - 1) 0 (λ e. other (sym e)))
          (done.freed k)
    ];
    in_range = done.in_range;
    room = let r = done.room in omega (arith, length-append us (u ∷ []));
    same_room = done.same_room;
  }

-- all users are counted down, from the last to the first
pub all_released : (users missing missing' ready ready' : List ℕ) (capacity capacity' n : ℕ) → n ≡ length (reverse users)
    → Released (take n (reverse users)) missing missing' ready ready' capacity capacity'
    → Released users missing missing' ready ready' capacity capacity'
all_released users missing missing' ready ready' capacity capacity' n e done =
    let whole : take n (reverse users) ≡ reverse users = take_all n (reverse users) (omega (arith, e)) in
    let same : (k : ℕ) → times k (take n (reverse users)) ≡ times k users = λ k. ap (times k) whole ∙ times-reverse k users in
    record {
      long = done.long;
      left = λ k. rw (← same k) (done.left k);
      freed = λ k. rw (← same k) (done.freed k);
      in_range = done.in_range;
      room = let r = done.room in omega (arith, ap length whole, length-reverse users);
      same_room = done.same_room;
    }
