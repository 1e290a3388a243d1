use Rattle.std.proofs.Common.{Some, None}
use Rattle.statement.proofs.AllFaultLemmas.{read_positions_faults}
use Rattle.statement.proofs.all_faults.judge_positions.Goals as goal

pub returns-in-Some : goal.returns-in-Some
returns-in-Some c =
    rw (c.in-Some.is, read_positions_faults (Some c.in-Some.tables.now) c.args.positions.now _ c.in-Ok.ensures) c.unbound_positions.ensures

pub returns-in-Ok : goal.returns-in-Ok
returns-in-Ok c = rw (c.in-None.is, read_positions_faults None c.args.positions.now _ c.in-Ok.ensures) c.new.ensures.items
