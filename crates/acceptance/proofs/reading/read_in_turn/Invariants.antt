use Rattle.std.proofs.Common.{◌≡◌, Some, map, take}
use Rattle.span_csv.specs.near.Pieces.{piece_of}
use Rattle.acceptance.proofs.reading.read_in_turn.Given as goal

abbrev pub invariant-loop-piece : goal.invariant-loop-piece
invariant-loop-piece l = map Some l.read.items ≡ map (λ piece. piece_of piece.now) (take l.piece-index l.pieces)
