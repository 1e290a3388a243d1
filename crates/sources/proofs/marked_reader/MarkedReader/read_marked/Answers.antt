use Rattle.std.proofs.Common.{ap}
use Rattle.sources.specs.Readings.{Reading}
use Rattle.sources.proofs.ReadingLemmas.{marks}
use Rattle.sources.proofs.marked_reader.MarkedReader.read_marked.Goals as goal

pub invariant_of-self : goal.invariant_of-self
invariant_of-self g c =
    marks g.R.Input.reads _ _ _ c.read_counted-result.result _ c.read_counted-result.ensures.noted
    (ap (λ (r : Reading _). r.input) c.self.view_is) c.is_failure-self-inside.ensures
