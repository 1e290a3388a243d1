use Rattle.scan_risk.proofs.ScanLaws.{active_is_largest, active_is_first, active_from}
use Rattle.scan_risk.proofs.laws.active_scenario_is_lowest.Goals as goal

pub returns-clause-largest : goal.returns-clause-largest
returns-clause-largest c = active_is_largest

pub returns-clause-first : goal.returns-clause-first
returns-clause-first c = active_is_first

pub returns-clause-found : goal.returns-clause-found
returns-clause-found c = active_from
