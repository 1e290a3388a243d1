-- The definitions that an answer unfolds to compute the readers' definitions on literals.
use Rattle.std.specs.Prelude.{⊤}
use Rattle.csv.specs.Machine.{next_record}
use Rattle.csv.specs.Reading.{records_from, strip_bom}
use Rattle.span_csv.specs.Records.{records_of, order_record, param_record, position_record}
use Rattle.span_csv.specs.ParamFaults.{faults_in, param_faults, params_of}
use Rattle.span_csv.specs.OrderFaults.{order_fault, orders_of}
use Rattle.span_csv.specs.PositionFaults.{position_faults, positions_of}

-- unfolds all definitions that are needed to compute the records of a literal file
unfoldable pub reading_on_literals : ⊤
unfolding next_record records_from strip_bom records_of order_record param_record position_record
    order_fault orders_of faults_in param_faults params_of position_faults positions_of
reading_on_literals = tt
