use Rattle.std.proofs.Common.{◌≡◌, ◌∙◌, sym, FitsSigned, w64, rules}
use Rattle.std.specs.Int.{w128}
use Rattle.std.proofs.lemmas.Int.{to_z-of_z}
use Rattle.scan_risk.specs.Scenarios.{scan_of, scan_risk}
use Rattle.scan_risk.proofs.ScanLaws.{risk_from}
use Rattle.scan_risk.proofs.scanning.scan.Goals as goal

pub returns-clause-value : goal.returns-clause-value
unfolding scan_of
returns-clause-value c =
    let fits : FitsSigned w64 c.largest-largest.result = search rules in
    let max_fits : FitsSigned w64 c.max.result = search rules in
    let from_fits : FitsSigned w128 c.from.result = search rules in
    let max = simp to_z-of_z at c.max.ensures.value in
    let from = simp to_z-of_z at c.from.ensures in
    let new = simp to_z-of_z at c.new-risk.ensures in
    let least = risk_from c.args.sums.now c.largest-largest.result c.largest-largest.ensures.above c.largest-largest.ensures.found in
    let risk : c.new-risk.result ≡ scan_risk c.args.sums.now = new ∙ from ∙ max ∙ sym least in cc
