use Rattle.std.proofs.Common.{◌≡◌, Err, rules}
use Rattle.std.specs.Arc.{arc_value}
use Rattle.statement.proofs.BatchRowLemmas.{rows_once}
use Rattle.statement.proofs.RollLemmas.{kept_refuses, next_refuses}
use Rattle.statement.proofs.roll.first_statement_and_next_set.Goals as goal

pub first_statement-requires : goal.first_statement-requires
first_statement-requires g c =
    let rows = rw c.in_ok-rows.was at c.first_rows_and_next_set-rows.ensures.rows in
    rows_once (arc_value c.args.set.now) c.args.portfolios _ rows c.requires.once

pub returns-in_err-text-clause-fault : goal.returns-in_err-text-clause-fault
returns-in_err-text-clause-fault g c =
    let is : c.from_residual-in_err-text.result ≡ Err c.in_err-text.field-0.0 = search rules in
    rw (is) (λ records. kept_refuses _ _ c.in_err-text.field-0.0 c.in_err-text.ensures.fault)

pub returns-in_err-told-clause-fault : goal.returns-in_err-told-clause-fault
returns-in_err-told-clause-fault g c =
    let is : c.from_residual-in_err-told.result ≡ Err c.in_err-told.field-0.0 = search rules in
    let refused = rw c.in_err-told.was at c.first_rows_and_next_set-rows.ensures.fault in
    rw (is) (λ records. next_refuses c.args.next.now records _ refused)

pub returns-clause-text : goal.returns-clause-text
returns-clause-text g c =
    let rows = rw c.in_ok-rows.was at c.first_rows_and_next_set-rows.ensures.rows in
    c.in_ok-text.ensures.text (arc_value c.args.set.now) c.args.portfolios rows

pub returns-clause-told : goal.returns-clause-told
returns-clause-told g c = rw c.in_ok-told.was at c.first_rows_and_next_set-rows.ensures.told
