use Rattle.std.proofs.Common.{length}
use Rattle.span_csv.specs.ParamFaults.{record_fault}
use Rattle.span_csv.specs.near.Checks.{Tallies}
use Rattle.span_csv.proofs.ToldLemmas.{IsTold}
use Rattle.span_csv.proofs.params.faults_in.Given as goal

abbrev pub invariant-loop-faults : goal.invariant-loop-faults
invariant-loop-faults l = IsTold record_fault (Tallies l.tally) l.initial.rows l.faults.items l.read l.rows

abbrev pub decreases-loop-faults : goal.decreases-loop-faults
decreases-loop-faults l = length l.rows
