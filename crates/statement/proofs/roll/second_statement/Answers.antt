use Rattle.std.proofs.Common.{◌≡◌, ◌∙◌, Err, rules}
use Rattle.std.specs.Arc.{arc_value}
use Rattle.statement.proofs.BatchRowLemmas.{rows_once}
use Rattle.statement.proofs.RollLemmas.{refused_rows, under_portfolios}
use Rattle.statement_text.specs.near.SpanFaults.{of_book}
use Rattle.statement.proofs.roll.second_statement.Goals as goal

pub put_in_book-requires : goal.put_in_book-requires
put_in_book-requires g c =
    rows_once (arc_value c.args.set.now) c.in_ok-portfolios.portfolios _ c.in_ok-rows.ensures c.in_ok-portfolios.ensures.once

pub returns-in_err-second-clause-fault : goal.returns-in_err-second-clause-fault
returns-in_err-second-clause-fault g c =
    let is : c.from_residual-in_err-second.result ≡ Err (of_book c.in_err-second.field-0.0) = search rules in
    rw (is) (refused_rows _ _ c.in_err-second.field-0.0 c.in_err-second.ensures.refused)

pub returns-clause-text : goal.returns-clause-text
returns-clause-text g c =
    let text = c.in_ok-append_to.ensures (arc_value c.args.set.now) c.in_ok-portfolios.portfolios
    (c.in_ok-second.ensures.in_book ∙ c.in_ok-rows.ensures) in
    rw (text) (under_portfolios (arc_value c.args.set.now).tables c.args.positions.now c.in_ok-portfolios.portfolios _
    c.in_ok-portfolios.ensures.portfolios)
