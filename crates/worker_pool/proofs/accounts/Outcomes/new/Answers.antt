use Rattle.worker_pool.proofs.PlaceLemmas.{no_memory_of}
use Rattle.worker_pool.proofs.accounts.Outcomes.new.Goals as goal

pub invariant_of-result : goal.invariant_of-result
invariant_of-result g c = rw (c.requires, c.in_ok-all_without_memory.ensures) (no_memory_of _ 0 _)
