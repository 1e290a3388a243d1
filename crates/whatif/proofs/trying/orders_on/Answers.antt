use Rattle.whatif.proofs.FileLemmas.{bound_orders_fit, bound_portfolios}
use Rattle.whatif.proofs.trying.orders_on.Goals as goal

pub returns-clause-portfolios : goal.returns-clause-portfolios
returns-clause-portfolios c = bound_portfolios _ _ _ c.in_ok-orders.orders c.in_ok-orders.ensures

pub returns-clause-fits : goal.returns-clause-fits
returns-clause-fits c =
    let tables = rw c.deref.ensures at c.tables.ensures.tables in
    rw tables at (bound_orders_fit _ _ _ c.in_ok-orders.orders c.in_ok-orders.ensures)
