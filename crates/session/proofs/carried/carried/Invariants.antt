use Rattle.session.specs.near.Carried.{AreMoved}
use Rattle.session.proofs.carried.carried.Given as goal

abbrev pub invariant-loop-holding : goal.invariant-loop-holding
invariant-loop-holding l = AreMoved l.old.contracts l.new.contracts l.portfolio l.holding-index l.moved.items
