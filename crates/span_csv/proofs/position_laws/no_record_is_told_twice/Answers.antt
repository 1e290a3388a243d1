use Rattle.span_csv.specs.Laws.{position_number}
use Rattle.span_csv.specs.PositionFaults.{is_memory, record_fault}
use Rattle.span_csv.proofs.AllFaultLaws.{each_once, position_tells}
use Rattle.span_csv.proofs.position_laws.no_record_is_told_twice.Goals as goal

pub returns : goal.returns
returns c = each_once record_fault position_number is_memory position_tells
