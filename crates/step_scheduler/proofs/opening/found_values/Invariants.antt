use Rattle.step_scheduler.proofs.FoundLemmas.{AreFound}
use Rattle.step_scheduler.proofs.opening.found_values.Given as goal

abbrev pub invariant-loop-of_commodity : goal.invariant-loop-of_commodity
invariant-loop-of_commodity l = AreFound l.job l.commodity l.of_commodity-iterator.rest.items l.slots.items
