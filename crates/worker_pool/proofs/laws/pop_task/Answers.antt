use Rattle.worker_pool.proofs.BalanceLemmas.{takes, pops, finds}
use Rattle.worker_pool.specs.Batches.{IsTaskOf}
use Rattle.worker_pool.proofs.laws.pop_task.Goals as goal

pub pop_as-requires-clause-fifo : goal.pop_as-requires-clause-fifo
pop_as-requires-clause-fifo g c = λ _. takes IsTaskOf _ _ 1 c.requires

pub pop_as-requires-clause-lifo : goal.pop_as-requires-clause-lifo
pop_as-requires-clause-lifo g c = λ _. pops IsTaskOf _ _ c.requires

pub pop_as-requires-clause-empty : goal.pop_as-requires-clause-empty
pop_as-requires-clause-empty g c = finds IsTaskOf _ _
