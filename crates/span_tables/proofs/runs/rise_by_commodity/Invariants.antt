use Rattle.span_tables.specs.near.Gathered.{number_held}
use Rattle.span_tables.proofs.RunLemmas.{RiseTo}
use Rattle.span_tables.proofs.runs.rise_by_commodity.Given as goal

abbrev pub invariant-loop-holding : goal.invariant-loop-holding
invariant-loop-holding l = RiseTo (number_held l.tables) l.holdings l.holding-index l.latest
