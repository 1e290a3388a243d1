use Rattle.std.proofs.Common.{◌≡◌, [], All, vec_len}
use Rattle.plan_shelf.proofs.shelves.empty_shelf.Given as goal

abbrev pub invariant-loop : goal.invariant-loop
invariant-loop g l = record { count : vec_len l.all ≡ l.counter; empty : All (λ reader. reader ≡ []) l.all.items }
