use Rattle.binding.proofs.OrderBindLaws.{held_last, net_second, unknown_first}
use Rattle.binding.proofs.order_laws.faults_of_orders_go_in_order.Goals as goal

pub returns-clause-unknown : goal.returns-clause-unknown
returns-clause-unknown c = unknown_first

pub returns-clause-net : goal.returns-clause-net
returns-clause-net c = net_second

pub returns-clause-held : goal.returns-clause-held
returns-clause-held c = held_last
