use Rattle.std.proofs.Common.{rules}
use Rattle.worker_pool.proofs.BalanceLemmas.{merges, learns}
use Rattle.worker_pool.specs.Batches.{IsTaskOf}
use Rattle.worker_pool.proofs.laws.settle_deque.Goals as goal

pub absorb-requires-clause-rule : goal.absorb-requires-clause-rule
absorb-requires-clause-rule g c = merges IsTaskOf _ _ _ _ c.requires.part

pub len_as-requires : goal.len_as-requires
len_as-requires g c = learns IsTaskOf _ _ (search rules)
