use Rattle.std.proofs.Common.{◌*◌, ◌+◌, length}
use Rattle.acceptance.proofs.reading.+pieces.Given as goal

abbrev pub decreases-read_pieces : goal.decreases-read_pieces
decreases-read_pieces g l = 2 * length l.pieces.now

abbrev pub decreases-join+arg2 : goal.decreases-join+arg2
decreases-join+arg2 g l = 2 * length l.front.now + 1

abbrev pub decreases-join+arg3 : goal.decreases-join+arg3
decreases-join+arg3 g l = 2 * length l.back.now + 1
