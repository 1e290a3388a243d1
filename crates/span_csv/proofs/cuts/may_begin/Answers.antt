use Rattle.span_csv.proofs.CutPlaces.{first_unmarked}
use Rattle.span_csv.proofs.cuts.may_begin.Goals as goal

pub returns-in-Some : goal.returns-in-Some
returns-in-Some c = first_unmarked c.args.bytes.now c.in-Some.first.now c.in-Some.ensures.value
