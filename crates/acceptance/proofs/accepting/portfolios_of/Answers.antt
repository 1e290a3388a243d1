use Rattle.acceptance.proofs.AccountLemmas.{bound_once}
use Rattle.acceptance.proofs.FitLemmas.{bound_fits}
use Rattle.acceptance.proofs.accepting.portfolios_of.Goals as goal

pub returns-clause-fits : goal.returns-clause-fits
returns-clause-fits c =
    let tables = rw c.deref.ensures at c.tables.ensures.tables in
    rw tables at (bound_fits _ _ c.in_ok-portfolios.portfolios c.in_ok-portfolios.ensures)

pub returns-clause-once : goal.returns-clause-once
returns-clause-once c = bound_once _ _ c.in_ok-portfolios.portfolios c.in_ok-portfolios.ensures
