use Rattle.std.proofs.Common.{List, subst}
use Rattle.step_scheduler.specs.Jobs.{JobView}
use Rattle.worker_pool.proofs.PlaceLemmas.{of_portfolios}
use Rattle.worker_pool.specs.near.Places.{AreOutcomesOf}
use Rattle.worker_pool.proofs.batch.run_on_many.Goals as goal

pub returns : goal.returns
returns g c =
    of_portfolios _ 0 _ _
    (subst (λ (jobs : List JobView). AreOutcomesOf jobs c.run_all.result.items) c.requires.jobs c.run_all.ensures)
