use Rattle.std.proofs.Common.{◌≡◌, length}
use Rattle.span_csv.specs.PositionFaults.{record_fault}
use Rattle.span_csv.specs.near.Telling.{accounts_counted}
use Rattle.span_csv.proofs.ToldLemmas.{IsTold}
use Rattle.span_csv.proofs.positions.faults_in.Given as goal

abbrev pub invariant-loop-faults : goal.invariant-loop-faults
invariant-loop-faults l =
    IsTold record_fault (λ rs. l.accounts.keys ≡ accounts_counted rs) l.initial.rows l.faults.items l.read l.rows

abbrev pub decreases-loop-faults : goal.decreases-loop-faults
decreases-loop-faults l = length l.rows
