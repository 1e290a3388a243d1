use Rattle.worker_pool.proofs.BalanceLemmas.{forks}
use Rattle.worker_pool.specs.Batches.{IsTaskOf}
use Rattle.worker_pool.proofs.laws.split_deque_pass.Goals as goal

pub another-requires : goal.another-requires
another-requires g c = forks IsTaskOf _ _ c.requires
