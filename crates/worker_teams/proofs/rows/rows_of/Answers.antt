use Rattle.worker_teams.proofs.OutcomeRowLemmas.{rows_of_batch}
use Rattle.worker_teams.proofs.rows.rows_of.Goals as goal

pub returns : goal.returns
returns c = λ set portfolios are. rows_of_batch set portfolios c.args.outcomes.items _ are c.in_ok-rows.ensures
