use Rattle.std.proofs.Common.{◌*◌, ◌+◌}
use Rattle.acceptance.proofs.bind_slices.+nets.Given as goal

abbrev pub decreases-nets_in_slices : goal.decreases-nets_in_slices
decreases-nets_in_slices g l = 2 * l.slices

abbrev pub decreases-join+arg2 : goal.decreases-join+arg2
decreases-join+arg2 g l = 2 * l.half + 1

abbrev pub decreases-join+arg3 : goal.decreases-join+arg3
decreases-join+arg3 g l = 2 * l.rest + 1
