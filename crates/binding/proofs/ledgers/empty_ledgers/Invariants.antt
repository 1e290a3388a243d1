use Rattle.std.proofs.Common.{◌≡◌, [], replicate}
use Rattle.binding.proofs.ledgers.empty_ledgers.Given as goal

abbrev pub invariant-loop-room : goal.invariant-loop-room
invariant-loop-room l = l.ledgers.items ≡ replicate l.room-index []
