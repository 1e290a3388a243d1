use Rattle.std.proofs.Common.{map}
use Rattle.std.specs.Arc.{arc_value}
use Rattle.worker_teams.specs.near.OutcomeRows.{AreRows}
use Rattle.worker_teams.proofs.rows.all_rows.Given as goal

abbrev pub invariant-loop-outcome : goal.invariant-loop-outcome
invariant-loop-outcome l = AreRows l.yielded (map arc_value l.rows.items)
