use Rattle.std.proofs.Common.{◌*◌, ◌+◌}
use Rattle.worker_teams.proofs.texts.+texts.Given as goal

abbrev pub decreases-text_of_slices : goal.decreases-text_of_slices
decreases-text_of_slices g l = 2 * l.crew.teams

abbrev pub decreases-join+arg3 : goal.decreases-join+arg3
decreases-join+arg3 g l = 2 * l.rest.teams + 1
