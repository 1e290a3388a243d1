use Rattle.std.proofs.Common.{◌∙◌, arith}
use Rattle.worker_pool.proofs.TeamLemmas.{of_team}
use Rattle.worker_pool.proofs.batch.open_workers.Goals as goal

pub returns : goal.returns
returns g c =
    let shared = c.in_ok-share_out_all.ensures in
    of_team c.args.team.first _ c.args.team.workers c.share_out_all.new.coordinator.number _
    (omega (arith, shared.coordinator, c.in_ok-coordinator.ensures, c.number-number.ensures.own))
    (shared.helpers ∙ c.in_ok-share_out.ensures ∙ c.in_ok-crew.ensures) c.requires
