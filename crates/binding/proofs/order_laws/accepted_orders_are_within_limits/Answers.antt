use Rattle.binding.proofs.OrderBindLaws.{accepted_known}
use Rattle.binding.proofs.TriedLaws.{accepted_holds}
use Rattle.binding.proofs.order_laws.accepted_orders_are_within_limits.Goals as goal

pub returns-clause-known : goal.returns-clause-known
returns-clause-known c = accepted_known

pub returns-clause-portfolios : goal.returns-clause-portfolios
returns-clause-portfolios c = accepted_holds
