use Rattle.worker_pool.proofs.BalanceLemmas.{counted}
use Rattle.worker_pool.proofs.QueueLemmas.{queue_pushes}
use Rattle.worker_pool.specs.Batches.{IsResultOf}
use Rattle.worker_pool.proofs.laws.push_result.Goals as goal

pub push_as-requires-clause-rule : goal.push_as-requires-clause-rule
push_as-requires-clause-rule g c = (queue_pushes IsResultOf _ _ _ _ c.requires.part c.requires.batch, counted IsResultOf _ _)
