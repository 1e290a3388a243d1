use Rattle.worker_pool.proofs.BalanceLemmas.{begins}
use Rattle.worker_pool.specs.Batches.{IsResultOf}
use Rattle.worker_pool.proofs.laws.new_queue.Goals as goal

pub ruled-requires-clause-rule : goal.ruled-requires-clause-rule
ruled-requires-clause-rule g c = begins IsResultOf g.B.Batch.jobs
