use Rattle.std.proofs.Common.{◌≡◌, ◌≤◌, length}
use Rattle.std.specs.Io.KnownBytes.{Keeps}
use Rattle.sources.proofs.ReadingLemmas.{ReadsOn}
use Rattle.sources.proofs.marked_reader.MarkedReader.read.Given as goal

abbrev pub invariant-loop-self : goal.invariant-loop-self
invariant-loop-self g l = record {
  bytes : Keeps l.fn.self.bytes l.self.bytes;
  left : l.self.left ≤ l.fn.self.left;
  on : ReadsOn g.R.Input.reads l.fn.self l.self;
  room : length l.buffer ≡ length l.fn.buffer;
}

abbrev pub decreases-loop-self : goal.decreases-loop-self
decreases-loop-self g l = l.self.left
