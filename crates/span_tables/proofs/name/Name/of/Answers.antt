use Rattle.span_tables.proofs.NamePlaces.{copied_over}
use Rattle.span_tables.proofs.name.Name.of.Goals as goal

pub invariant_of-result : goal.invariant_of-result
invariant_of-result c = rw c.copy_from_slice.ensures.after (copied_over c.args.text.now c.requires)
