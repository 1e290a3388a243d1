use Rattle.std.proofs.Common.{◌≡◌, ◌≤◌, [], length}
use Rattle.csv.specs.Records.{fields_of, partial_of}
use Rattle.csv.specs.declared.parser.State.TheVariants as state
use Rattle.span_csv.specs.near.Rows.{rows, AreLines}
use Rattle.span_csv.proofs.lines.push_fields.Given as goal

abbrev pub invariant-loop-end : goal.invariant-loop-end
invariant-loop-end l = record {
  lines : AreLines l.left;
  few : length l.left ≤ length l.bytes;
  whole : partial_of l.row ≡ [];
  same : rows state.StartField (fields_of l.row) [] l.left ≡ rows state.StartField (fields_of l.initial.row) [] l.bytes;
}

abbrev pub decreases-loop-end : goal.decreases-loop-end
decreases-loop-end l = length l.left
