use Rattle.std.proofs.Common.{◌≡◌, map, take}
use Rattle.std.specs.Prelude.{All}
use Rattle.span_tables.specs.Holdings.{ArePortfolio}
use Rattle.binding.specs.near.Holdings.{excess_of}
use Rattle.binding.specs.near.Orders.{kept_after, portfolio_before}
use Rattle.binding.proofs.orders.kept_orders.order_excesses.Given as goal

abbrev pub invariant-loop-order : goal.invariant-loop-order
invariant-loop-order l = record {
  are : l.excesses.items ≡ map (λ o. excess_of (kept_after l.contracts l.portfolios o)) (take l.order-index l.orders);
  before : All (λ o. ArePortfolio (portfolio_before l.portfolios o.account).holdings) (take l.order-index l.orders);
}
