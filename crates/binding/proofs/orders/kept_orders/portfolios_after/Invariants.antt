use Rattle.std.proofs.Common.{◌≡◌, map, take}
use Rattle.binding.specs.near.Orders.{kept_order}
use Rattle.binding.proofs.orders.kept_orders.portfolios_after.Given as goal

abbrev pub invariant-loop-order : goal.invariant-loop-order
invariant-loop-order l = l.all.items ≡ map (λ o. (kept_order l.contracts l.portfolios o).after) (take l.order-index l.orders)
