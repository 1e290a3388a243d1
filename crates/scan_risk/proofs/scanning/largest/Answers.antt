use Rattle.std.proofs.Common.{arith}
use Rattle.scan_risk.proofs.ScanLaws.{largest_from}
use Rattle.scan_risk.proofs.scanning.largest.Goals as goal

pub returns-clause-above : goal.returns-clause-above
returns-clause-above c =
    (largest_from c.args.sums.now c.loop-sum.sum-index _ (omega arith) (omega arith) c.loop-sum.invariant.value).0

pub returns-clause-found : goal.returns-clause-found
returns-clause-found c =
    (largest_from c.args.sums.now c.loop-sum.sum-index _ (omega arith) (omega arith) c.loop-sum.invariant.value).1
