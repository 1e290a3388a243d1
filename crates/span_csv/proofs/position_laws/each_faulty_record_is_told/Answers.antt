use Rattle.std.proofs.Common.{[]}
use Rattle.span_tables.proofs.FaultLaws.{faults_told}
use Rattle.span_csv.specs.Laws.{position_number}
use Rattle.span_csv.specs.PositionFaults.{is_memory, record_fault}
use Rattle.span_csv.proofs.AllFaultLaws.{each_of_some, none_of_memory, position_tells}
use Rattle.span_csv.proofs.position_laws.each_faulty_record_is_told.Goals as goal

pub returns-clause-of_record : goal.returns-clause-of_record
returns-clause-of_record c = each_of_some record_fault position_number is_memory position_tells

pub returns-clause-told : goal.returns-clause-told
returns-clause-told c = λ rs y. faults_told record_fault [] rs y

pub returns-clause-memory : goal.returns-clause-memory
returns-clause-memory c = none_of_memory record_fault position_number is_memory position_tells
