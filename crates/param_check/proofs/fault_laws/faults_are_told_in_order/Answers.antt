use Rattle.param_check.proofs.OrderedFaults.{bind_in_order, check_in_order}
use Rattle.param_check.proofs.fault_laws.faults_are_told_in_order.Goals as goal

pub returns-clause-rules : goal.returns-clause-rules
returns-clause-rules c = check_in_order

pub returns-clause-positions : goal.returns-clause-positions
returns-clause-positions c = bind_in_order
