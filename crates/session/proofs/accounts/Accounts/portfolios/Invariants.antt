use Rattle.std.proofs.Common.{◌≡◌, ◌++◌}
use Rattle.session.proofs.accounts.Accounts.portfolios.Given as goal

-- the portfolios so far, followed by the remaining ones
abbrev pub invariant-loop-portfolio : goal.invariant-loop-portfolio
invariant-loop-portfolio l = l.all.items ++ l.portfolio-iterator ≡ l.self
