use Rattle.step_scheduler.specs.near.Figures.{AreFilled}
use Rattle.step_scheduler.proofs.stepped.Stepped.held_figures.Given as goal

abbrev pub invariant-loop-commodity : goal.invariant-loop-commodity
invariant-loop-commodity l = AreFilled (l.job).set.tables (l.job).portfolio.holdings l.commodity l.held
