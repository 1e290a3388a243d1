use Rattle.span_tables.proofs.OrdersByOrder.{accounts_of_orders, one_account}
use Rattle.span_tables.proofs.raw.RawOrders.accounts.Goals as goal

pub returns-clause-value : goal.returns-clause-value
returns-clause-value c =
    rw (c.deref.ensures.value, ← c.self.view_is)
    (accounts_of_orders c.self.inside.accounts.items c.self.inside.by_order c.self.invariant)

pub returns-clause-one : goal.returns-clause-one
returns-clause-one c = rw (← c.self.view_is) (one_account c.self.inside.accounts.items c.self.inside.by_order)
