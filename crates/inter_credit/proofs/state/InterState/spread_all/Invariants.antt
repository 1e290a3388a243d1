use Rattle.std.proofs.Common.{◌≡◌, drop, length}
use Rattle.std.specs.Prelude.{All, fold}
use Rattle.span_tables.specs.Accepted.{IsInter}
use Rattle.inter_credit.specs.Credits.{inter_both_ways}
use Rattle.inter_credit.specs.near.Index.{AreBlocks}
use Rattle.inter_credit.proofs.state.InterState.spread_all.Given as goal

abbrev pub invariant-loop-block : goal.invariant-loop-block
invariant-loop-block l = record {
  value : fold inter_both_ways l.self l.left ≡ fold inter_both_ways l.fn.self l.spreads;
  blocks : AreBlocks (drop l.block-index l.block-items) l.left;
  in_range : All (IsInter (length l.self)) l.left;
  long : length l.self ≡ length l.fn.self;
}
