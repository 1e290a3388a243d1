use Rattle.std.proofs.Common.{◌≡◌, ◌∙◌, Err, Ok, ap, rules, arith, sym}
use Rattle.std.specs.Arc.{arc_value}
use Rattle.statement_text.specs.declared.faults.SpanFault.TheVariants as fault
use Rattle.statement_text.proofs.FaultLemmas.{never_workers}
use Rattle.whatif.proofs.FileLemmas.{first_refuses, gives_no_workers, on_accepted, on_never_workers, orders_refuse}
use Rattle.whatif.proofs.trying.whatif.Goals as goal

pub returns-in_err-set-clause-workers : goal.returns-in_err-set-clause-workers
returns-in_err-set-clause-workers g c =
    let refused : c.from_residual.result ≡ Err fault.Workers → c.accept_together.result ≡ Err fault.Workers = search rules in
    (λ e. absurd (never_workers _ c.accept_together.result _ _ c.accept_together.ensures.text (refused e)), λ w. absurd (omega arith))

pub returns-in_err-set-clause-text : goal.returns-in_err-set-clause-text
returns-in_err-set-clause-text g c =
    let is : c.from_residual.result ≡ Err c.in_err-set.field-0.0 = search rules in
    rw (is) (first_refuses c.args.workers c.args.params.now c.args.positions.now c.args.orders.now (omega arith) (omega arith)
    c.in_err-set.field-0.0 c.in_err-set.ensures.text)

pub returns-in_err-orders-clause-workers : goal.returns-in_err-orders-clause-workers
returns-in_err-orders-clause-workers g c =
    let refused : c.from_residual-in_err-orders.result ≡ Err fault.Workers → c.orders_on.result ≡ Err fault.Workers = search rules in (
      λ e. absurd (gives_no_workers _ c.orders_on.result _ c.orders_on.ensures.text (on_never_workers _ _ _) (refused e)),
      λ w. absurd (omega arith),
    )

pub returns-in_err-orders-clause-text : goal.returns-in_err-orders-clause-text
returns-in_err-orders-clause-text g c =
    let accepted = c.in_ok-set.field-0 in
    let is : c.from_residual-in_err-orders.result ≡ Err c.in_err-orders.field-0.0 = search rules in
    rw (is) (orders_refuse c.args.workers c.args.params.now c.args.positions.now c.args.orders.now (omega arith) (omega arith)
    (arc_value accepted.set).tables accepted.positions accepted.portfolios c.in_ok-set.ensures.accepted.tables
    c.in_ok-set.ensures.accepted.records c.in_ok-set.ensures.accepted.bound.portfolios
    c.in_err-orders.field-0.0 c.in_err-orders.ensures.text)

pub returns-clause-text : goal.returns-clause-text
returns-clause-text g c =
    let accepted = c.in_ok-set.field-0 in
    on_accepted c.args.workers c.args.params.now c.args.positions.now c.args.orders.now (omega arith) (omega arith)
    (arc_value accepted.set).tables accepted.positions accepted.portfolios c.in_ok-set.ensures.accepted.tables
    c.in_ok-set.ensures.accepted.records c.in_ok-set.ensures.accepted.bound.portfolios
    ∙ c.in_ok-orders.ensures.text ∙ ap Ok (sym c.in_ok-text.ensures)
