use Rattle.binding.proofs.TradeOrders.{bound_as_an_order}
use Rattle.binding.proofs.order_laws.trades_are_bound_as_an_order.Goals as goal

pub returns : goal.returns
returns c = λ contracts portfolios order account. bound_as_an_order order account contracts portfolios
