use Rattle.statement.proofs.AllFaultLemmas.{params_in_front}
use Rattle.statement.proofs.laws.faults_of_parameters_stand_in_front.Goals as goal

pub returns : goal.returns
returns c = params_in_front
