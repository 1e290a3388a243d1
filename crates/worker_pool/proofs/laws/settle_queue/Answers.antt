use Rattle.std.proofs.Common.{rules}
use Rattle.worker_pool.proofs.BalanceLemmas.{merges, learns}
use Rattle.worker_pool.specs.Batches.{IsResultOf}
use Rattle.worker_pool.proofs.laws.settle_queue.Goals as goal

pub absorb-requires-clause-rule : goal.absorb-requires-clause-rule
absorb-requires-clause-rule g c = merges IsResultOf _ _ _ _ c.requires.part

pub learn_as-requires-clause-rule : goal.learn_as-requires-clause-rule
learn_as-requires-clause-rule g c = learns IsResultOf _ _ (search rules)
