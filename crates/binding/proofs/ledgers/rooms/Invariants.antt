use Rattle.std.proofs.Common.{◌≡◌, length}
use Rattle.binding.proofs.ledgers.rooms.Given as goal

abbrev pub invariant-loop-position : goal.invariant-loop-position
invariant-loop-position l = length l.rooms.items ≡ l.count
