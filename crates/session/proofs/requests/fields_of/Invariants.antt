use Rattle.std.proofs.Common.{◌≡◌, ◌++◌, ◌≤◌, length}
use Rattle.session.specs.Requests.{fields_of, texts_of}
use Rattle.session.proofs.requests.fields_of.Given as goal

abbrev pub invariant-loop-end : goal.invariant-loop-end
invariant-loop-end l = record {
  few : length l.left ≤ length l.line;
  same : texts_of l.fields.items ++ fields_of l.left ≡ fields_of l.line;
}

abbrev pub decreases-loop-end : goal.decreases-loop-end
decreases-loop-end l = length l.left
