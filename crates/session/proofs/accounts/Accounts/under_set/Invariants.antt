use Rattle.session.specs.near.Carried.{AreCarried}
use Rattle.session.proofs.accounts.Accounts.under_set.Given as goal

abbrev pub invariant-loop-portfolio : goal.invariant-loop-portfolio
invariant-loop-portfolio l = AreCarried l.old.contracts l.new.contracts l.self l.portfolio-iterator l.all.items
