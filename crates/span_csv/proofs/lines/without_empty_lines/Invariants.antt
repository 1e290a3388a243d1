use Rattle.std.proofs.Common.{◌≡◌, length}
use Rattle.span_csv.specs.near.Rows.{rows_in, AreLines}
use Rattle.span_csv.proofs.lines.without_empty_lines.Given as goal

abbrev pub invariant-loop-left : goal.invariant-loop-left
invariant-loop-left l = record {
  lines : AreLines l.left;
  same : rows_in l.left ≡ rows_in l.bytes;
}

abbrev pub decreases-loop-left : goal.decreases-loop-left
decreases-loop-left l = length l.left
