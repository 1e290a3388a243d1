use Rattle.std.proofs.Common.{◌≡◌, false, length, rules, sym, vec_len}
use Rattle.statement.proofs.AllFaultLemmas.{broken_tables}
use Rattle.statement.proofs.all_faults.judge_records.Goals as goal

pub returns-then-not-is_empty-clause-tables : goal.returns-then-not-is_empty-clause-tables
returns-then-not-is_empty-clause-tables c =
    let size : vec_len c.in_ok-faults.faults ≡ length c.in_ok-faults.faults.items = search rules in
    let some : c.is_empty.result ≡ false = search rules in
    sym (broken_tables c.args.records c.in_ok-faults.faults.items _ _ c.in_ok-faults.ensures size c.is_empty.ensures some)
