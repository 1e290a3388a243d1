use Rattle.scan_risk.proofs.ScanLaws.{scan_risk_least}
use Rattle.scan_risk.proofs.laws.scan_risk_is_least.Goals as goal

pub returns : goal.returns
returns c = scan_risk_least
