use Rattle.std.proofs.lemmas.List.{map-append}
use Rattle.worker_teams.proofs.OutcomeRowLemmas.{rows_more}
use Rattle.worker_teams.proofs.rows.all_rows.Goals as goal

pub loop-outcome-preserved : goal.loop-outcome-preserved
loop-outcome-preserved c =
    rw (c.in-Margined.is, c.in_ok-push-in-Margined.ensures.items, map-append)
    (rows_more c.loop-outcome.yielded _ c.in-Margined.row c.loop-outcome.invariant)
