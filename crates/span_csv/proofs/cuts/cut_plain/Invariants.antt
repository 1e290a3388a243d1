use Rattle.std.proofs.Common.{◌≡◌, ◌+◌, ◌-◌, ◌≤◌, ◌++◌, false, vec_len}
use Rattle.std.specs.Prelude.{flat_map}
use Rattle.span_csv.specs.Cuts.{has_quote}
use Rattle.span_csv.specs.Records.{records_of}
use Rattle.span_csv.proofs.cuts.cut_plain.Given as goal

abbrev pub invariant-loop-pieces : goal.invariant-loop-pieces
invariant-loop-pieces l = record {
  records : flat_map (λ piece. records_of piece.now) l.pieces.items ++ records_of l.left ≡ records_of l.bytes;
  bytes : flat_map (λ piece. piece.now) l.pieces.items ++ l.left ≡ l.bytes;
  plain : has_quote l.left ≡ false;
  few : vec_len l.pieces + 1 ≤ l.count;
}

abbrev pub decreases-loop-pieces : goal.decreases-loop-pieces
decreases-loop-pieces l = l.count - vec_len l.pieces
