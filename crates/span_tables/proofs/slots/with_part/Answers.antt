use Rattle.span_tables.proofs.SlotLemmas.{marked_kept, marked_new}
use Rattle.span_tables.proofs.slots.with_part.Goals as goal

pub returns-then-part-gt0-clause-added : goal.returns-then-part-gt0-clause-added
returns-then-part-gt0-clause-added c some = rw c.with.ensures (marked_new c.args.word c.args.number)

pub returns-then-part-gt0-clause-kept : goal.returns-then-part-gt0-clause-kept
returns-then-part-gt0-clause-kept c other h = rw c.with.ensures (marked_kept c.args.word c.args.number other h)
