use Rattle.worker_pool.proofs.BalanceLemmas.{forks}
use Rattle.worker_pool.specs.Batches.{IsResultOf}
use Rattle.worker_pool.proofs.laws.split_queue_pass.Goals as goal

pub another-requires-clause-rule : goal.another-requires-clause-rule
another-requires-clause-rule g c = forks IsResultOf _ _ c.requires.parts
