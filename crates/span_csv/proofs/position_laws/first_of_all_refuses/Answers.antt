use Rattle.std.proofs.Common.{map, ap}
use Rattle.span_tables.specs.Faults.{first_of, ok_unless}
use Rattle.span_csv.specs.PositionFaults.{position_faults, positions_of}
use Rattle.span_csv.specs.Records.{position_record, records_of}
use Rattle.span_tables.proofs.FaultLaws.{ok_parts}
use Rattle.span_csv.proofs.AllFaultLaws.{none_first, refused_some}
use Rattle.span_csv.proofs.position_laws.first_of_all_refuses.Goals as goal

pub returns-clause-read : goal.returns-clause-read
unfolding positions_of
returns-clause-read c = λ bytes records is.
    none_first (position_faults bytes) (ok_parts _ (map position_record (records_of bytes)) records is).0

pub returns-clause-none : goal.returns-clause-none
unfolding positions_of
returns-clause-none c = λ bytes none. ap (λ faults. ok_unless (first_of faults) (map position_record (records_of bytes))) none

pub returns-clause-refused : goal.returns-clause-refused
unfolding positions_of
returns-clause-refused c = λ bytes y is. refused_some (first_of (position_faults bytes)) (map position_record (records_of bytes)) y is
