use Rattle.std.proofs.Common.{◌≡◌, ◌++◌, length}
use Rattle.session.specs.Requests.{texts_of, trades_of}
use Rattle.session.specs.near.FieldTests.{AreTrades}
use Rattle.session.proofs.requests.trades_of.Given as goal

abbrev pub invariant-loop-left : goal.invariant-loop-left
invariant-loop-left l = record {
  are : AreTrades (texts_of l.left);
  same : l.trades.items ++ trades_of (texts_of l.left) ≡ trades_of (texts_of l.fields);
}

abbrev pub decreases-loop-left : goal.decreases-loop-left
decreases-loop-left l = length l.left
