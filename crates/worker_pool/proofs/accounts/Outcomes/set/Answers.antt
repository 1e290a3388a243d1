use Rattle.std.proofs.Common.{arith, refl}
use Rattle.std.proofs.lemmas.Option.{slice_get_within}
use Rattle.worker_pool.proofs.PlaceLemmas.{length_of, set_at}
use Rattle.worker_pool.proofs.accounts.Outcomes.set.Goals as goal

pub index_mut-requires : goal.index_mut-requires
index_mut-requires g c =
    omega (
      arith,
      slice_get_within g.B.Batch.jobs _ _ c.args.row.of_batch,
      length_of g.B.Batch.jobs c.self.inside.list.items c.self.invariant,
    )

pub invariant_of-self : goal.invariant_of-self
invariant_of-self g c = set_at g.B.Batch.jobs c.self.inside.list.items c.args.row.place _ _ c.self.invariant c.args.row.of_batch refl
