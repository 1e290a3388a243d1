use Rattle.std.proofs.Common.{map, ap}
use Rattle.span_tables.specs.Faults.{first_of, ok_unless}
use Rattle.span_csv.specs.ParamFaults.{param_faults, params_of}
use Rattle.span_csv.specs.Records.{param_record, records_of}
use Rattle.span_tables.proofs.FaultLaws.{ok_parts}
use Rattle.span_csv.proofs.AllFaultLaws.{none_first, refused_some}
use Rattle.span_csv.proofs.param_laws.first_of_all_refuses.Goals as goal

pub returns-clause-read : goal.returns-clause-read
unfolding params_of
returns-clause-read c = λ bytes records is.
    none_first (param_faults bytes) (ok_parts _ (map param_record (records_of bytes)) records is).0

pub returns-clause-none : goal.returns-clause-none
unfolding params_of
returns-clause-none c = λ bytes none. ap (λ faults. ok_unless (first_of faults) (map param_record (records_of bytes))) none

pub returns-clause-refused : goal.returns-clause-refused
unfolding params_of
returns-clause-refused c = λ bytes y is. refused_some (first_of (param_faults bytes)) (map param_record (records_of bytes)) y is
