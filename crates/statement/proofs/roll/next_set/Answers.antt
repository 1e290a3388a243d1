use Rattle.statement.proofs.RollLemmas.{refused_set}
use Rattle.statement.proofs.roll.next_set.Goals as goal

pub returns-in-Err-clause-fault : goal.returns-in-Err-clause-fault
returns-in-Err-clause-fault c = rw (c.of_next_set.ensures) (refused_set c.args.next.now c.in-Err.fault c.in-Err.ensures)
