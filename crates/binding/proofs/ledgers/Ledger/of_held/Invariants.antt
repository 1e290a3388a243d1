use Rattle.std.proofs.Common.{◌≡◌, take}
use Rattle.binding.specs.near.Ledgers.{held_entries}
use Rattle.binding.proofs.ledgers.Ledger.of_held.Given as goal

abbrev pub invariant-loop-holding : goal.invariant-loop-holding
invariant-loop-holding l = l.ledger ≡ held_entries (take l.holding-index l.holdings)
