use Rattle.span_tables.specs.Orders.{account_of_order, positions_of_order}
use Rattle.span_tables.proofs.MergedLaws.{holdings_with_fits}
use Rattle.binding.specs.OrderBinding.{holdings_before}
use Rattle.binding.proofs.order_laws.orders_are_of_contracts_that_there_are.Goals as goal

pub returns : goal.returns
returns c = λ contracts portfolios all order.
    holdings_with_fits contracts (holdings_before portfolios all order) (positions_of_order all order) (account_of_order all order)
