use Rattle.std.proofs.Common.{[], ◌≤◌}
use Rattle.desks.specs.Takings.{coming}
use Rattle.desks.specs.near.Lines.{ReadsLine, measure_of}
use Rattle.desks.proofs.intake.complete.Given as goal

abbrev pub invariant-loop-block : goal.invariant-loop-block
invariant-loop-block g l = record {
  reads : ReadsLine (coming l.fn.block l.fn.reader) (coming l.block l.reader) l.line [];
  measure : measure_of l.reader l.block ≤ measure_of l.fn.reader l.fn.block;
}

abbrev pub decreases-loop-block : goal.decreases-loop-block
decreases-loop-block g l = l.reader.left
