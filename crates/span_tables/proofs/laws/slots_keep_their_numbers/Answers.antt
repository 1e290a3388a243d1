use Rattle.span_tables.proofs.SlotLemmas.{marked_before, marked_kept, marked_new}
use Rattle.span_tables.proofs.laws.slots_keep_their_numbers.Goals as goal

pub returns-clause-added : goal.returns-clause-added
returns-clause-added c = marked_new

pub returns-clause-kept : goal.returns-clause-kept
returns-clause-kept c = marked_kept

pub returns-clause-alone : goal.returns-clause-alone
returns-clause-alone c = marked_before
