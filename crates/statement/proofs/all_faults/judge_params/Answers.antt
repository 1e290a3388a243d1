use Rattle.statement.proofs.AllFaultLemmas.{read_params_faults, read_params_tables}
use Rattle.statement.proofs.all_faults.judge_params.Goals as goal

pub returns-in-Ok-clause-tables : goal.returns-in-Ok-clause-tables
returns-in-Ok-clause-tables c = rw (read_params_tables c.args.params.now _ c.in-Ok.ensures) c.judge_records.ensures.tables

pub returns-in-Ok-clause-faults : goal.returns-in-Ok-clause-faults
returns-in-Ok-clause-faults c = rw (read_params_faults c.args.params.now _ c.in-Ok.ensures) c.judge_records.ensures.faults
