use Rattle.std.proofs.Common.{◌≡◌, drop, map, take}
use Rattle.span_tables.specs.Net.{accounts_of}
use Rattle.binding.specs.near.Nets.{entries_of}
use Rattle.binding.proofs.ledgers.ledgers_from.Given as goal

abbrev pub invariant-loop-number : goal.invariant-loop-number
invariant-loop-number l = l.ledgers.items
    ≡ map (entries_of l.numbers.keys (take l.number l.positions)) (take l.count (drop l.first (accounts_of l.positions)))
