use Rattle.std.proofs.Common.{◌≡◌, Err, rules}
use Rattle.statement.proofs.RollLemmas.{unkept_rows}
use Rattle.statement_text.specs.near.SpanFaults.{of_book}
use Rattle.statement.proofs.roll.first_statement.Goals as goal

pub returns-in_err-first-clause-fault : goal.returns-in_err-first-clause-fault
returns-in_err-first-clause-fault g c =
    let is : c.from_residual.result ≡ Err (of_book c.in_err-first.field-0.0) = search rules in
    rw (is) (unkept_rows c.in_err-first.field-0.0 c.in_err-first.ensures.refused)
