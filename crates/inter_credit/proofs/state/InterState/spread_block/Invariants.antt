use Rattle.std.proofs.Common.{◌≡◌, length}
use Rattle.span_tables.proofs.WordFolds.{AreFormed}
use Rattle.inter_credit.specs.Credits.{inter_both_ways}
use Rattle.inter_credit.specs.near.Index.{FormsNothing}
use Rattle.inter_credit.proofs.state.InterState.spread_block.Given as goal

abbrev pub invariant-loop-number : goal.invariant-loop-number
invariant-loop-number l = record {
  formed : AreFormed inter_both_ways FormsNothing l.spreads l.fn.self l.self l.left;
  long : length l.self ≡ length l.fn.self;
}

abbrev pub decreases-loop-number : goal.decreases-loop-number
decreases-loop-number l = l.left
