use Rattle.worker_pool.proofs.BalanceLemmas.{takes}
use Rattle.worker_pool.specs.Batches.{IsTaskOf}
use Rattle.worker_pool.proofs.laws.steal_task.Goals as goal

pub steal_as-requires-clause-takes : goal.steal_as-requires-clause-takes
steal_as-requires-clause-takes g c = takes IsTaskOf _ _ 1 c.requires.part
