use Rattle.std.proofs.Common.{◌≡◌, map}
use Rattle.worker_pool.proofs.batch.share_out_all.Given as goal

abbrev pub invariant-loop-thieves : goal.invariant-loop-thieves
invariant-loop-thieves g l = record {
  coordinator : l.coordinator.number ≡ l.initial.coordinator.number;
  helpers : map (λ h. h.number) l.helpers.items ≡ map (λ h. h.number) l.initial.helpers.items;
}
