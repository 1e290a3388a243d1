-- Each step of the result queue preserves the balance rule, like a step of a deque.
use Rattle.std.proofs.Common.{◌≡◌, ℕ, ◌<◌, List, [], ◌∷◌, arith}
use Rattle.crossbeam_queue.specs.Fifo.{Pushes, Pops}
use Rattle.step_scheduler.specs.Jobs.{JobView}
use Rattle.worker_pool.specs.declared.passes.PassView.{PassView}
use Rattle.worker_pool.specs.Balance.{IsBalanced, with_pushed, with_taken}
use Rattle.worker_pool.proofs.BalanceLemmas.{pushes, takes}

module _ {T : Type 0} (IsOf : List JobView → T → Type 0) where
  pub queue_pushes : (n pass : ℕ) (v : PassView T) (x : T) → 0 < v.parts → IsOf v.batch x
      → Pushes (IsBalanced IsOf) n pass v x (λ w. w ≡ with_pushed v (x ∷ []))
  queue_pushes n pass v x some_part of items views _ k at = pushes IsOf pass v x some_part of items views k at

  pub queue_pops : (pass : ℕ) (v : PassView T) → 0 < v.parts
      → Pops (IsBalanced IsOf) pass v (λ x w. (w ≡ with_taken v (x ∷ [])) × IsOf v.batch x)
  queue_pops pass v some_part x items views k at =
      let t = takes IsOf pass v 1 some_part (x ∷ []) items views (omega arith) (omega arith) k at in
      (t.0, t.1, (t.2.0, t.2.1 0 x (omega arith)))
