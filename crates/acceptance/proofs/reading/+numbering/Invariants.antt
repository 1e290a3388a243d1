use Rattle.std.proofs.Common.{◌*◌, ◌+◌, length}
use Rattle.acceptance.proofs.reading.+numbering.Given as goal

abbrev pub decreases-number_pieces : goal.decreases-number_pieces
decreases-number_pieces g l = 2 * length l.pieces.items

abbrev pub decreases-join+arg2 : goal.decreases-join+arg2
decreases-join+arg2 g l = 2 * length l.pieces.items + 1

abbrev pub decreases-join+arg3 : goal.decreases-join+arg3
decreases-join+arg3 g l = 2 * length l.back.items + 1
