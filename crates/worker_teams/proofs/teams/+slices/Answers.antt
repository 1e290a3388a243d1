use Rattle.std.specs.Arc.{arc_value}
use Rattle.std.proofs.lemmas.Result.{IfOk-at_ok}
use Rattle.worker_pool.specs.Outcomes.{AreOutcomes}
use Rattle.worker_teams.proofs.JoinLemmas.{slices_joined}
use Rattle.worker_teams.proofs.teams.+slices.Goals as goal

pub returns : goal.returns
returns g t c =
    let set = arc_value c.args.set.now in
    let cut = c.in_ok-slice.ensures in
    rw c.in_ok-append.ensures.items (slices_joined set _ _ _ _ _ _ cut.items cut.tail
    (IfOk-at_ok (λ outcomes. AreOutcomes set _ outcomes.items) c.in_ok-outcomes.was c.join-last.ensures.second)
    (IfOk-at_ok (λ outcomes. AreOutcomes set _ outcomes.items) c.in_ok-last.was c.join-last.ensures.first))
