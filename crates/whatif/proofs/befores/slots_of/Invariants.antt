use Rattle.std.proofs.Common.{◌≡◌, length}
use Rattle.whatif.specs.near.Befores.{AreSlots}
use Rattle.whatif.proofs.befores.slots_of.Given as goal

abbrev pub invariant-loop-order : goal.invariant-loop-order
invariant-loop-order l = (length l.slots.items ≡ l.order) × AreSlots l.orders l.places.keys l.slots.items
