use Rattle.std.proofs.Common.{rules, ◌≡◌, ◌∷◌}
use Rattle.worker_pool.proofs.PlaceLemmas.{opened, without_first}
use Rattle.worker_pool.proofs.accounts.Waiting.next_job.Goals as goal

pub invariant_of-self-in_err-set : goal.invariant_of-self-in_err-set
invariant_of-self-in_err-set g c = without_first _ _ _ _ _ c.in-Some.portfolio (search rules) c.self.invariant

pub invariant_of-self-in_err-job : goal.invariant_of-self-in_err-job
invariant_of-self-in_err-job g c = without_first _ _ _ _ _ c.in-Some.portfolio (search rules) c.self.invariant

pub invariant_of-self-2 : goal.invariant_of-self-2
invariant_of-self-2 g c = without_first _ _ _ _ _ c.in-Some.portfolio (search rules) c.self.invariant

pub returns : goal.returns
returns g c =
    let e : c.self.inside.portfolios.items ≡ c.in-Some.portfolio ∷ c.pop_front.new.self.items = search rules in
    let h = (opened _ _ _ g.B.Batch.jobs c.self.inside.next_place _ e c.self.invariant.0).0 in
    search rules
