use Rattle.std.proofs.Common.{sym, arith, FitsSigned, w64, rules}
use Rattle.std.proofs.lemmas.Int.{to_z-of_z}
use Rattle.scan_risk.proofs.ScanLaws.{active_first}
use Rattle.scan_risk.proofs.scanning.active.Goals as goal

pub returns-clause-value : goal.returns-clause-value
returns-clause-value c =
    let fits : FitsSigned w64 c.args.largest = search rules in
    let here = simp to_z-of_z at c.first_index.ensures.here in
    let before = simp to_z-of_z at c.first_index.ensures.before in
    sym (active_first c.args.sums.now c.args.largest c.first_index.result (omega arith) c.requires.above here before)
