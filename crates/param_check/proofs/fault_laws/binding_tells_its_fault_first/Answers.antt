use Rattle.param_check.proofs.AnswerLaws.{bind_accepted, bind_refused}
use Rattle.param_check.proofs.fault_laws.binding_tells_its_fault_first.Goals as goal

pub returns-clause-accepted : goal.returns-clause-accepted
returns-clause-accepted c = bind_accepted

pub returns-clause-refused : goal.returns-clause-refused
returns-clause-refused c = bind_refused
