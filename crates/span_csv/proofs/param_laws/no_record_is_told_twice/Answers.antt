use Rattle.span_csv.proofs.AllFaultLaws.{param_once}
use Rattle.span_csv.proofs.param_laws.no_record_is_told_twice.Goals as goal

pub returns : goal.returns
returns c = param_once
