use Rattle.std.proofs.Common.{◌≡◌, []}
use Rattle.std.proofs.lemmas.Bool.Decides.{when_false}
use Rattle.span_csv.proofs.ReadLemmas.{told_empty, told_records}
use Rattle.span_csv.proofs.params.faults_in.Goals as goal
use Rattle.span_csv.proofs.params.faults_in.Goals.{then-read-eq0+in_ok-push, else-read-eq0}

pub returns : goal.returns
returns c =
    let told = c.loop-faults.invariant in
    let end : c.loop-faults.rows ≡ [] = when_false _ _ c.if-branch.false c.in_ok-next.ensures.found in
    elim c.if-read-eq0.branch [
      | then-read-eq0+in_ok-push w ↦ rw (w.faults-is, w.in_ok-push.ensures.items) (told_empty told end w.if-read-eq0.true)
      | else-read-eq0 w ↦ rw w.faults-is (told_records told end w.if-read-eq0.false)
    ]
