use Rattle.std.proofs.Common.{arith}
use Rattle.std.proofs.lemmas.Result.{err_from_is_err_and}
use Rattle.desks.specs.Takings.{coming}
use Rattle.desks.proofs.TakingLemmas.{reads_block, reads_line}
use Rattle.desks.proofs.intake.complete.Goals as goal

pub returns-clause-reads : goal.returns-clause-reads
returns-clause-reads g c =
    reads_line (coming c.args.block.now c.args.reader.now) c.loop-block.reader c.loop-block.block c.loop-block.line
    c.loop-block.invariant.reads c.cut.new.self c.cut.new.line c.loop-block-test.ensures

pub returns-then-not-branch-clause-reads : goal.returns-then-not-branch-clause-reads
returns-then-not-branch-clause-reads g c =
    reads_block (coming c.args.block.now c.args.reader.now) c.loop-block.reader c.loop-block.block c.loop-block.line
    c.loop-block.invariant.reads c.fill.new.reader c.cut.new.self c.fill.new.self c.cut.new.line c.loop-block-test.ensures
    c.fill.ensures.bytes

pub returns-in_err-fill-clause-reads : goal.returns-in_err-fill-clause-reads
returns-in_err-fill-clause-reads g c =
    let p = err_from_is_err_and c.from_residual.result c.from_residual.ensures.1 in
    rw p.1 (reads_block (coming c.args.block.now c.args.reader.now) c.loop-block.reader c.loop-block.block c.loop-block.line
    c.loop-block.invariant.reads c.fill.new.reader c.cut.new.self c.fill.new.self c.cut.new.line c.loop-block-test.ensures
    c.fill.ensures.bytes)

pub loop-block-preserved : goal.loop-block-preserved
loop-block-preserved g c = record {
  reads = reads_block (coming c.args.block.now c.args.reader.now) c.loop-block.reader c.loop-block.block c.loop-block.line
      c.loop-block.invariant.reads c.fill.new.reader c.cut.new.self c.fill.new.self c.cut.new.line c.loop-block-test.ensures
      c.fill.ensures.bytes;
  measure = omega (arith, c.in_ok-fill.ensures.left, c.fill.ensures.few, c.loop-block.invariant.measure);
}
