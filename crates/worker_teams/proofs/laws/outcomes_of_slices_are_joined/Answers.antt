use Rattle.worker_pool.proofs.OutcomeLemmas.{outcomes_joined}
use Rattle.worker_teams.proofs.laws.outcomes_of_slices_are_joined.Goals as goal

pub returns : goal.returns
returns c = outcomes_joined
