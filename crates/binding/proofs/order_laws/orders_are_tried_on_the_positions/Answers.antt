use Rattle.binding.proofs.TriedLaws.{after_by_positions, before_by_positions}
use Rattle.binding.proofs.order_laws.orders_are_tried_on_the_positions.Goals as goal

pub returns-clause-before : goal.returns-clause-before
returns-clause-before c = before_by_positions

pub returns-clause-after : goal.returns-clause-after
returns-clause-after c = after_by_positions
