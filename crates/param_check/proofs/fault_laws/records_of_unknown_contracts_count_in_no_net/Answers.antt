use Rattle.param_check.proofs.RenumberLaws.{as_alone}
use Rattle.param_check.proofs.fault_laws.records_of_unknown_contracts_count_in_no_net.Goals as goal

pub returns : goal.returns
returns c = as_alone
