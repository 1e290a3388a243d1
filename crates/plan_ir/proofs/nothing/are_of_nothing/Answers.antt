use Rattle.std.proofs.lemmas.Bool.Decides.{Decides-int_eq}
use Rattle.std.proofs.lemmas.Slice.Eq.{slice_eq-Decides}
use Rattle.plan_ir.proofs.NothingLemmas.{sums_of_nothing}
use Rattle.plan_ir.proofs.nothing.are_of_nothing.Goals as goal

pub returns : goal.returns
returns c = rw sums_of_nothing (slice_eq-Decides Decides-int_eq c.args.sums.now _ c.eq.result c.eq.ensures)
