use Rattle.std.proofs.Common.{◌*◌, ◌+◌}
use Rattle.worker_teams.proofs.teams.+slices.Given as goal

abbrev pub decreases-run_slices : goal.decreases-run_slices
decreases-run_slices g l = 2 * l.crew.teams

abbrev pub decreases-join+arg3 : goal.decreases-join+arg3
decreases-join+arg3 g l = 2 * l.rest.teams + 1
