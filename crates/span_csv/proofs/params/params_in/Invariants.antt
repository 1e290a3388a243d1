use Rattle.std.proofs.Common.{length}
use Rattle.span_csv.proofs.ReadLemmas.{HasRead}
use Rattle.span_csv.proofs.params.params_in.Given as goal

abbrev pub invariant-loop-records : goal.invariant-loop-records
invariant-loop-records l = HasRead l.records.items l.tally l.initial.rows l.rows

abbrev pub decreases-loop-records : goal.decreases-loop-records
decreases-loop-records l = length l.rows
