use Rattle.worker_pool.proofs.BalanceLemmas.{pushes}
use Rattle.worker_pool.specs.Batches.{IsTaskOf}
use Rattle.worker_pool.proofs.laws.push_task.Goals as goal

pub push_as-requires-clause-pushes : goal.push_as-requires-clause-pushes
push_as-requires-clause-pushes g c = pushes IsTaskOf _ _ _ c.requires.part c.requires.batch
