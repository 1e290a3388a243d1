-- Each step of a deque or of the result queue preserves the balance rule.
use Rattle.std.proofs.Common.{◌≡◌, ◌≢◌, ℕ, zero, suc, ◌+◌, ◌<◌, All, List, [], ◌∷◌, ◌++◌, length, set, sym, refl, ap, subst, ⊎_elim, arith}
use mathlib.Core.Option.{some, some-ne-none, some-injective}
use lib.ListN.{get_elem?}
use lib.Seq.{take-append_seam, drop-append_seam}
use Rattle.std.proofs.lemmas.List.Elements.{All-append, All-drop, All-nil, All-push, All-take}
use Rattle.crossbeam_deque.specs.Tasks.{Pushes, Takes, Pops, Forks, Merges, Learns, Finds}
use Rattle.crossbeam_deque.proofs.Lists.{at_set, at_snoc}
use Rattle.step_scheduler.specs.Jobs.{JobView}
use Rattle.worker_pool.specs.declared.passes.PassView.{PassView}
use Rattle.worker_pool.specs.Balance.{AreTaken, IsBalanced, IsPassIn, KnowsAll, KnowsLeft, knows, merged, nothing, one_part, total}
use Rattle.worker_pool.specs.Balance.{weigh, with_pushed, with_taken, without_part}

module _ {T : Type 0} where
  pub weigh-append : (h : T → ℕ) (xs ys : List T) → weigh h (xs ++ ys) ≡ weigh h xs + weigh h ys
  weigh-append h [] ys = omega arith
  weigh-append h (x ∷ xs) ys = omega (arith, weigh-append h xs ys)

  total_set : (f : PassView T → ℕ) (views : List (PassView T)) (port : ℕ) (v w : PassView T) → get_elem? views port ≡ some v
      → total f (set views port w) + f v ≡ total f views + f w
  total_set f [] port v w at = absurd (some-ne-none v (sym at))
  total_set f (x ∷ xs) zero v w at = let e = ap f (some-injective x v at) in omega arith
  total_set f (x ∷ xs) (suc j) v w at = omega (arith, total_set f xs j v w at)

  total_snoc : (f : PassView T → ℕ) (views : List (PassView T)) (w : PassView T) → total f (views ++ w ∷ []) ≡ total f views + f w
  total_snoc f [] w = omega arith
  total_snoc f (x ∷ xs) w = omega (arith, total_snoc f xs w)

  part_of : (f : PassView T → ℕ) (views : List (PassView T)) (port : ℕ) (v : PassView T) → get_elem? views port ≡ some v
      → f v < total f views + 1
  part_of f [] port v at = absurd (some-ne-none v (sym at))
  part_of f (x ∷ xs) zero v at = let e = ap f (some-injective x v at) in omega arith
  part_of f (x ∷ xs) (suc j) v at = omega (arith, part_of f xs j v at)

  -- the number f of a view is 0 for each view without parts
  abbrev IsIdle : (PassView T → ℕ) → List (PassView T) → Type 0
  IsIdle f views = (port : ℕ) (v : PassView T) → get_elem? views port ≡ some v → v.parts ≡ 0 → f v ≡ 0

  none : (f : PassView T → ℕ) (views : List (PassView T)) → total (λ v. v.parts) views ≡ 0 → IsIdle f views
      → total f views ≡ 0
  none f [] parts idle = refl
  none f (x ∷ xs) parts idle = let e = idle 0 x refl (omega arith) in omega (arith, none f xs (omega arith) (λ j. idle (suc j)))

  -- if one view has all parts, the total of f over all views is f of this view
  whole : (f : PassView T → ℕ) (views : List (PassView T)) (port : ℕ) (v : PassView T) → get_elem? views port ≡ some v
      → total (λ u. u.parts) views ≡ v.parts → IsIdle f views → total f views ≡ f v
  whole f [] port v at parts idle = absurd (some-ne-none v (sym at))
  whole f (x ∷ xs) zero v at parts idle =
      let e = some-injective x v at in let p = ap (λ (u : PassView T). u.parts) e in
      omega (arith, none f xs (omega arith) (λ j. idle (suc j)), ap f e)
  whole f (x ∷ xs) (suc j) v at parts idle =
      let p = part_of (λ u. u.parts) xs j v at in let e = idle 0 x refl (omega arith) in
      omega (arith, whole f xs j v at (omega arith) (λ i. idle (suc i)))

  front : (P : T → Type 0) (xs ys : List T) → All P (xs ++ ys) → All P xs
  front P xs ys h = subst (All P) (take-append_seam xs ys) (All-take P (length xs) (xs ++ ys) h)

  back : (P : T → Type 0) (xs ys : List T) → All P (xs ++ ys) → All P ys
  back P xs ys h = subst (All P) (drop-append_seam xs ys) (All-drop P (length xs) (xs ++ ys) h)

module _ {T : Type 0} (IsOf : List JobView → T → Type 0) where
  passes_set : (batch : List JobView) (views : List (PassView T)) (port : ℕ) (w : PassView T) → IsPassIn IsOf batch w
      → ((j : ℕ) (u : PassView T) → get_elem? views j ≡ some u → IsPassIn IsOf batch u) → (j : ℕ) (u : PassView T)
      → get_elem? (set views port w) j ≡ some u → IsPassIn IsOf batch u
  passes_set batch views port w mine others j u at = ⊎_elim (λ (t : (j ≡ port) × (w ≡ u)). subst (IsPassIn IsOf batch) t.1 mine)
      (λ (t : (j ≢ port) × (get_elem? views j ≡ some u)). others j u t.1)
      (at_set views port j w u at)

  -- a pass with a part, and with items of its batch
  with_part : (batch : List JobView) (v : PassView T) → 0 < v.parts → v.batch ≡ batch → All (IsOf batch) v.pushed
      → All (IsOf batch) v.taken → IsPassIn IsOf batch v
  with_part batch v some_part of pushed taken = record {
    idle = λ no_part. absurd (omega arith);
    named = λ _. of;
    pushed = pushed;
    taken = taken;
  }

  -- a pass without items
  without_items : (batch own : List JobView) (parts : ℕ) → (0 < parts → own ≡ batch) → IsPassIn IsOf batch (knows own parts [] [])
  without_items batch own parts named = record {
    idle = λ _. (refl, refl);
    named = named;
    pushed = All-nil (IsOf batch);
    taken = All-nil (IsOf batch);
  }

  -- a step that changes one pass and keeps its parts preserves the balance
  step : (items left : List T) (views : List (PassView T)) (port : ℕ) (v w : PassView T) (k : IsBalanced IsOf items views)
      → get_elem? views port ≡ some v → w.parts ≡ v.parts
      → ((h : T → ℕ) → weigh h items + weigh h w.pushed + weigh h v.taken ≡ weigh h w.taken + weigh h left + weigh h v.pushed)
      → All (IsOf k.batch) left → IsPassIn IsOf k.batch w → IsBalanced IsOf left (set views port w)
  step items left views port v w k at parts even inside pass = record {
    batch = k.batch;
    parts = (let s = total_set (λ u. u.parts) views port v w at in let p = k.parts in omega arith);
    balanced = λ h.
        let s = total_set (λ u. weigh h u.pushed) views port v w at in
        let t = total_set (λ u. weigh h u.taken) views port v w at in
        let b = k.balanced h in
        let e = even h in
        omega arith;
    inside = inside;
    passes = passes_set k.batch views port w pass k.passes;
  }

  first : (batch : List JobView) (port : ℕ) (v : PassView T) → get_elem? (knows batch 1024 [] [] ∷ []) port ≡ some v
      → IsPassIn IsOf batch v
  first batch zero v at =
      subst (IsPassIn IsOf batch) (some-injective (knows batch 1024 [] []) v at) (without_items batch batch 1024 (λ _. refl))
  first batch (suc j) v at = absurd (some-ne-none v (sym at))

  pub begins : (batch : List JobView) → IsBalanced IsOf [] (knows batch 1024 [] [] ∷ [])
  begins batch = record {
    batch = batch;
    parts = refl;
    balanced = λ h. refl;
    inside = All-nil (IsOf batch);
    passes = first batch;
  }

  pub pushes : (port : ℕ) (v : PassView T) (x : T) → 0 < v.parts → IsOf v.batch x
      → Pushes (IsBalanced IsOf) port v (x ∷ []) (λ w. w ≡ with_pushed v (x ∷ []))
  pushes port v x some_part of items views k at =
      let w : PassView T = with_pushed v (x ∷ []) in
      let f : IsPassIn IsOf k.batch v = k.passes port v at in
      let b : v.batch ≡ k.batch = f.named some_part in
      let new : IsOf k.batch x = subst (λ (l : List JobView). IsOf l x) b of in (
        w,
        step items (items ++ x ∷ []) views port v w k at refl
            (λ h. omega (arith, weigh-append h v.pushed (x ∷ []), weigh-append h items (x ∷ [])))
            (All-push (IsOf k.batch) items x k.inside new)
            (with_part k.batch w some_part b (All-push (IsOf k.batch) v.pushed x f.pushed new) f.taken),
        refl,
      )

  -- taking items that were inside, and leaving the others, preserves the balance
  taken_out : (all xs left : List T) (views : List (PassView T)) (port : ℕ) (v : PassView T) → 0 < v.parts
      → (k : IsBalanced IsOf all views) → get_elem? views port ≡ some v
      → ((h : T → ℕ) → weigh h all ≡ weigh h xs + weigh h left) → All (IsOf k.batch) xs → All (IsOf k.batch) left
      → (w : PassView T) × IsBalanced IsOf left (set views port w) × AreTaken IsOf v xs w
  taken_out all xs left views port v some_part k at even gone rest =
      let w : PassView T = with_taken v xs in
      let f : IsPassIn IsOf k.batch v = k.passes port v at in
      let b : v.batch ≡ k.batch = f.named some_part in (
        w,
        step all left views port v w k at refl (λ h. omega (arith, weigh-append h v.taken xs, even h)) rest
            (with_part k.batch w some_part b f.pushed (All-append (IsOf k.batch) v.taken xs f.taken gone)),
        (refl, subst (λ (l : List JobView). All (IsOf l) xs) (sym b) gone),
      )

  pub takes : (port : ℕ) (v : PassView T) (most : ℕ) → 0 < v.parts → Takes (IsBalanced IsOf) port v most (AreTaken IsOf v)
  takes port v most some_part xs items views _ _ k at =
      taken_out (xs ++ items) xs items views port v some_part k at (λ h. weigh-append h xs items)
      (front (IsOf k.batch) xs items k.inside) (back (IsOf k.batch) xs items k.inside)

  pub pops : (port : ℕ) (v : PassView T) → 0 < v.parts → Pops (IsBalanced IsOf) port v (AreTaken IsOf v)
  pops port v some_part x items views k at =
      taken_out (items ++ x ∷ []) (x ∷ []) items views port v some_part k at
      (λ h. omega (arith, weigh-append h items (x ∷ [])))
      (back (IsOf k.batch) items (x ∷ []) k.inside) (front (IsOf k.batch) items (x ∷ []) k.inside)

  pub forks : (port : ℕ) (v : PassView T) → 1 < v.parts → Forks (IsBalanced IsOf) port v (without_part v) (one_part v)
  forks port v parts items views k at =
      let l : PassView T = without_part v in
      let r : PassView T = one_part v in
      let f : IsPassIn IsOf k.batch v = k.passes port v at in
      let b : v.batch ≡ k.batch = f.named (omega arith) in
      let vs : List (PassView T) = set views port l in
      let left : IsPassIn IsOf k.batch l = with_part k.batch l (omega arith) b f.pushed f.taken in
      let right : IsPassIn IsOf k.batch r = without_items k.batch v.batch 1 (λ _. b) in
      record {
        batch = k.batch;
        parts = (let s = total_set (λ u. u.parts) views port v l at in let n = total_snoc (λ u. u.parts) vs r in let p = k.parts in
            omega arith);
        balanced = λ h.
            let s = total_set (λ u. weigh h u.pushed) views port v l at in
            let t = total_set (λ u. weigh h u.taken) views port v l at in
            let m = total_snoc (λ u. weigh h u.pushed) vs r in
            let n = total_snoc (λ u. weigh h u.taken) vs r in
            let e = k.balanced h in
            omega arith;
        inside = k.inside;
        passes = λ j u e. ⊎_elim (passes_set k.batch views port l left k.passes j u)
            (λ (is : r ≡ u). subst (IsPassIn IsOf k.batch) is right) (at_snoc vs r u j e);
      }

  pub merges : (port : ℕ) (v : PassView T) (other : ℕ) (w : PassView T) → 0 < v.parts
      → Merges (IsBalanced IsOf) port v other w (merged v w) nothing
  merges port v other w some_part items views k at apart there =
      let both : PassView T = merged v w in
      let vs : List (PassView T) = set views port both in
      let was : get_elem? views other ≡ some w = ⊎_elim (λ (t : (other ≡ port) × (both ≡ w)). absurd (apart t.0))
      (λ (t : (other ≢ port) × (get_elem? views other ≡ some w)). t.1) (at_set views port other both w there) in
      let f : IsPassIn IsOf k.batch v = k.passes port v at in
      let g : IsPassIn IsOf k.batch w = k.passes other w was in
      let mine : IsPassIn IsOf k.batch both = with_part k.batch both (omega arith) (f.named some_part)
      (All-append (IsOf k.batch) v.pushed w.pushed f.pushed g.pushed)
      (All-append (IsOf k.batch) v.taken w.taken f.taken g.taken) in
      let spent : IsPassIn IsOf k.batch nothing = without_items k.batch [] 0 (λ h. absurd (omega arith)) in
      record {
        batch = k.batch;
        parts = (let s = total_set (λ u. u.parts) views port v both at in let t = total_set (λ u. u.parts) vs other w nothing there in
            let p = k.parts in omega arith);
        balanced = λ h.
            let s = total_set (λ u. weigh h u.pushed) views port v both at in
            let t = total_set (λ u. weigh h u.pushed) vs other w nothing there in
            let m = total_set (λ u. weigh h u.taken) views port v both at in
            let n = total_set (λ u. weigh h u.taken) vs other w nothing there in
            let e = k.balanced h in
            omega (arith, weigh-append h v.pushed w.pushed, weigh-append h v.taken w.taken);
        inside = k.inside;
        passes = passes_set k.batch vs other nothing spent (passes_set k.batch views port both mine k.passes);
      }

  pub learns : (port : ℕ) (v : PassView T) → v.parts ≡ 1024 → Learns (IsBalanced IsOf) port v (KnowsAll IsOf v)
  learns port v all items views k at =
      let f : IsPassIn IsOf k.batch v = k.passes port v at in
      let b : k.batch ≡ v.batch = sym (f.named (omega arith)) in
      let p : total (λ u. u.parts) views ≡ v.parts = omega (arith, k.parts) in (
        (λ h.
            let s = whole (λ u. weigh h u.pushed) views port v at p (λ j u e none. ap (weigh h) ((k.passes j u e).idle none).0) in
            let t = whole (λ u. weigh h u.taken) views port v at p (λ j u e none. ap (weigh h) ((k.passes j u e).idle none).1) in
            let e = k.balanced h in
            omega arith),
        subst (λ (l : List JobView). All (IsOf l) items) b k.inside,
        subst (λ (l : List JobView). All (IsOf l) v.pushed) b f.pushed,
        subst (λ (l : List JobView). All (IsOf l) v.taken) b f.taken,
      )

  -- a pass with all parts knows what is inside
  pub counted : (port : ℕ) (v : PassView T) → Learns (IsBalanced IsOf) port v (KnowsLeft v)
  counted port v items views k at all = (learns port v all items views k at).0

  -- a pass with all parts knows if nothing is inside
  pub finds : (port : ℕ) (v : PassView T) → Finds (IsBalanced IsOf) port v (KnowsLeft v [])
  finds port v views k at = counted port v [] views k at
