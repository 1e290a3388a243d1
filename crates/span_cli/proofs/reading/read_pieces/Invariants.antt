use Rattle.std.proofs.Common.{◌≡◌, ◌≤◌, ◌+◌, ◌-◌, take, vec_len}
use Rattle.std.specs.Io.KnownBytes.{Consumes}
use Rattle.span_cli.proofs.FileReadLemmas.{ReadsOn}
use Rattle.span_cli.proofs.reading.read_pieces.Given as goal

abbrev pub invariant-loop-filled : goal.invariant-loop-filled
invariant-loop-filled g l = record {
  taken : Consumes l.fn.reader.bytes l.reader.bytes (take l.filled l.bytes.items);
  filled : l.filled ≤ vec_len l.bytes;
  on : ReadsOn g.R.Input.reads l.fn.reader l.reader l.filled;
  same : l.reader.failed ≡ l.fn.reader.failed;
}

abbrev pub decreases-loop-filled : goal.decreases-loop-filled
decreases-loop-filled g l = l.fn.cap + 1 - l.filled
