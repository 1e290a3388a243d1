use Rattle.worker_pool.proofs.BalanceLemmas.{begins}
use Rattle.worker_pool.specs.Batches.{IsTaskOf}
use Rattle.worker_pool.proofs.laws.new_deque.Goals as goal

pub fifo_as-requires : goal.fifo_as-requires
fifo_as-requires g c = begins IsTaskOf g.B.Batch.jobs
