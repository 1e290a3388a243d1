use Rattle.std.proofs.Common.{◌≡◌, ◌++◌, flat_map, map, take}
use Rattle.session.specs.Accounts.{held_record}
use Rattle.session.specs.Positions.{position_line}
use Rattle.session.proofs.positions.push_held.Given as goal

-- the records so far
abbrev pub invariant-loop-holding : goal.invariant-loop-holding
invariant-loop-holding l =
    l.out.items
    ≡ l.fn.out.items ++ flat_map position_line (map (held_record l.contracts l.portfolio.account) (take l.holding-index l.holding-items))
