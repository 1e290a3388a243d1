use Rattle.std.proofs.Common.{◌≡◌, ◌++◌}
use Rattle.session.proofs.accounts.Accounts.new.Given as goal

-- the accounts so far, followed by the remaining ones
abbrev pub invariant-loop-portfolio : goal.invariant-loop-portfolio
invariant-loop-portfolio l = l.accounts ++ l.portfolio-iterator.rest.items ≡ l.fn.portfolios
