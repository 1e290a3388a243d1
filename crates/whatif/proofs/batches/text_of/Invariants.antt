use Rattle.std.proofs.Common.{◌≡◌, ◌≤◌, ◌-◌, length}
use Rattle.std.specs.Arc.{arc_value}
use Rattle.whatif.specs.near.Orders.{orders_text}
use Rattle.whatif.proofs.batches.text_of.Given as goal

abbrev pub invariant-loop-first : goal.invariant-loop-first
invariant-loop-first g l =
    (l.first ≤ length l.orders.orders) × (l.out.items ≡ orders_text (arc_value l.lent.set.now).tables l.orders 0 l.first)

abbrev pub decreases-loop-first : goal.decreases-loop-first
decreases-loop-first g l = length l.orders.orders - l.first
