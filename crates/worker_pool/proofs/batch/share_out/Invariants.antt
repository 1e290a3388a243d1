use Rattle.std.proofs.Common.{◌≡◌, map}
use Rattle.worker_pool.proofs.batch.share_out.Given as goal

abbrev pub invariant-loop-helper : goal.invariant-loop-helper
invariant-loop-helper g l = map (λ h. h.number) l.helper-items ≡ map (λ h. h.number) l.fn.helpers.items
