use Rattle.worker_pool.proofs.BalanceLemmas.{counted}
use Rattle.worker_pool.proofs.QueueLemmas.{queue_pops}
use Rattle.worker_pool.specs.Batches.{IsResultOf}
use Rattle.worker_pool.proofs.laws.pop_result.Goals as goal

pub pop_as-requires-clause-rule : goal.pop_as-requires-clause-rule
pop_as-requires-clause-rule g c = (queue_pops IsResultOf _ _ c.requires.part, counted IsResultOf _ _)
