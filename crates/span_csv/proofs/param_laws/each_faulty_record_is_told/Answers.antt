use Rattle.std.proofs.Common.{[], ◌∷◌}
use Rattle.span_tables.proofs.FaultLaws.{faults_told}
use Rattle.span_csv.specs.ParamFaults.{faults_in, record_fault}
use Rattle.span_csv.proofs.AllFaultLaws.{param_no_memory, param_of_some}
use Rattle.span_csv.proofs.param_laws.each_faulty_record_is_told.Goals as goal

pub returns-clause-of_record : goal.returns-clause-of_record
returns-clause-of_record c = param_of_some

pub returns-clause-told : goal.returns-clause-told
unfolding faults_in
returns-clause-told c = λ r rs y. faults_told record_fault [] (r ∷ rs) y

pub returns-clause-memory : goal.returns-clause-memory
returns-clause-memory c = param_no_memory
