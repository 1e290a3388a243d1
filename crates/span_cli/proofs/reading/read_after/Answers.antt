use Rattle.std.proofs.Common.{arith, length-take-le}
use borrow.Rule.Slice.PartMut.{take_put}
use Rattle.span_cli.proofs.PieceLemmas.{read_in_place}
use Rattle.span_cli.proofs.reading.read_after.Goals as goal

pub returns-clause-front : goal.returns-clause-front
returns-clause-front g c = take_put _ _ c.args.bytes.now _ (omega (arith, c.requires))

pub returns-clause-bytes : goal.returns-clause-bytes
returns-clause-bytes g c =
    read_in_place _ _ c.read.result _ c.read.new.buffer _ c.args.filled
    (length-take-le _ c.args.bytes.now (omega (arith, c.requires))) c.read.ensures.bound c.read.ensures.bytes
