use Rattle.binding.proofs.AcceptedLaws.{unknown_first, net_second, held_last}
use Rattle.binding.proofs.laws.faults_of_positions_go_in_order.Goals as goal

pub returns-clause-unknown : goal.returns-clause-unknown
returns-clause-unknown c = unknown_first

pub returns-clause-net : goal.returns-clause-net
returns-clause-net c = net_second

pub returns-clause-held : goal.returns-clause-held
returns-clause-held c = held_last
