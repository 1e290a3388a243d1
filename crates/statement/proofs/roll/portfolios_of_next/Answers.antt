use Rattle.std.specs.Arc.{arc_value}
use Rattle.statement.proofs.RollLemmas.{refused_bound}
use Rattle.statement.proofs.roll.portfolios_of_next.Goals as goal

pub returns-in-Err-clause-fault : goal.returns-in-Err-clause-fault
returns-in-Err-clause-fault g c = rw (c.of_next_set.ensures)
    (refused_bound (arc_value c.args.set.now).tables c.args.positions.now c.in-Err.fault c.in-Err.ensures.portfolios)
