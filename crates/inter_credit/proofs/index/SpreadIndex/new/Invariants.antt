use Rattle.std.proofs.Common.{◌++◌, List, length}
use Rattle.span_tables.specs.declared.leg_index.LegIndex.{LegIndex}
use Rattle.inter_credit.specs.near.Index.{AreBlocks}
use Rattle.inter_credit.proofs.index.SpreadIndex.new.Given as goal

abbrev pub invariant-loop-left : goal.invariant-loop-left
invariant-loop-left l = (rest : List LegIndex) → AreBlocks rest l.left → AreBlocks (l.blocks.items ++ rest) l.spreads

abbrev pub decreases-loop-left : goal.decreases-loop-left
decreases-loop-left l = length l.left
