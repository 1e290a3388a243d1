use Rattle.span_tables.proofs.OrdersByOrder.{under_orders}
use Rattle.span_tables.proofs.raw.RawOrders.by_order.Goals as goal

pub returns : goal.returns
returns c = rw (← c.self.view_is) (under_orders c.self.inside.accounts.items c.self.inside.by_order)
