use Rattle.std.proofs.Common.{[], ◌∷◌}
use Rattle.span_csv.specs.ParamFaults.{faults_in}
use Rattle.span_tables.proofs.FaultLaws.{first_fault_some, first_fault_none, first_fault_free}
use Rattle.span_csv.proofs.param_laws.first_faulty_record_counts.Goals as goal

pub returns-clause-first : goal.returns-clause-first
unfolding faults_in
returns-clause-first c = λ r rs y. first_fault_some _ [] (r ∷ rs) y

pub returns-clause-none : goal.returns-clause-none
unfolding faults_in
returns-clause-none c = λ r rs. first_fault_none _ [] (r ∷ rs)

pub returns-clause-free : goal.returns-clause-free
unfolding faults_in
returns-clause-free c = λ r rs. first_fault_free _ [] (r ∷ rs)
