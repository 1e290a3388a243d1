use Rattle.std.proofs.Common.{◌≡◌, ◌++◌, ◌-◌}
use Rattle.std.specs.Arc.{arc_value}
use Rattle.whatif.specs.near.Orders.{orders_text}
use Rattle.whatif.proofs.batches.push_batch.Given as goal

abbrev pub invariant-loop-order : goal.invariant-loop-order
invariant-loop-order g l =
    l.out.items ≡ l.fn.out.items ++ orders_text (arc_value l.lent.set.now).tables l.orders l.first (l.order - l.first)
