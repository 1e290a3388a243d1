use Rattle.inter_credit.specs.near.Open.{AreLoaded}
use Rattle.inter_credit.proofs.state.set_back.Given as goal

abbrev pub invariant-loop-slot : goal.invariant-loop-slot
invariant-loop-slot l = AreLoaded l.left l.states

abbrev pub decreases-loop-slot : goal.decreases-loop-slot
decreases-loop-slot l = l.left
