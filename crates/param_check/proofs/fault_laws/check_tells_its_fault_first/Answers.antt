use Rattle.param_check.proofs.AnswerLaws.{check_accepted, check_refused}
use Rattle.param_check.proofs.fault_laws.check_tells_its_fault_first.Goals as goal

pub returns-clause-accepted : goal.returns-clause-accepted
returns-clause-accepted c = check_accepted

pub returns-clause-refused : goal.returns-clause-refused
returns-clause-refused c = check_refused
