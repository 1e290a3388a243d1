use Rattle.std.proofs.Common.{◌≡◌}
use Rattle.std.specs.Arc.{arc_value}
use Rattle.worker_pool.specs.Outcomes.{AreOutcomes}
use Rattle.worker_pool.proofs.plain.run_on_one.Given as goal

abbrev pub invariant-loop-portfolio : goal.invariant-loop-portfolio
invariant-loop-portfolio g l = record {
  outcomes : AreOutcomes (arc_value l.set) l.yielded l.outcomes.items;
  set : l.runs ≡ arc_value l.set;
}
