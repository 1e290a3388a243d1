use Rattle.std.proofs.Common.{◌≡◌, ◌++◌}
use Rattle.session.specs.Accounts.{position_records}
use Rattle.session.specs.Positions.{position_lines}
use Rattle.session.proofs.accounts.Accounts.push_records.Given as goal

-- the records so far, followed by the remaining ones
abbrev pub invariant-loop-portfolio : goal.invariant-loop-portfolio
invariant-loop-portfolio l =
    l.out.items ++ position_lines (position_records l.contracts l.portfolio-iterator)
    ≡ l.fn.out.items ++ position_lines (position_records l.contracts l.self)
