use Rattle.std.proofs.Common.{◌≡◌, ◌≤◌, [], length}
use Rattle.csv.specs.declared.parser.State.TheVariants as state
use Rattle.span_csv.specs.near.Rows.{rows, texts_of, AreLines}
use Rattle.span_csv.proofs.lines.lend_fields.Given as goal

abbrev pub invariant-loop-end : goal.invariant-loop-end
invariant-loop-end l = record {
  lines : AreLines l.left;
  few : length l.left ≤ length l.bytes;
  same : rows state.StartField (texts_of l.fields.items) [] l.left ≡ rows state.StartField (texts_of l.initial.fields.items) [] l.bytes;
}

abbrev pub decreases-loop-end : goal.decreases-loop-end
decreases-loop-end l = length l.left
