use Rattle.std.proofs.Common.{◌≡◌, ◌⊎◌, ◌<◌, ◌∙◌, Err, refl, rules, arith}
use Rattle.statement_text.specs.declared.faults.SpanFault.TheVariants as fault
use Rattle.statement_text.proofs.FaultLemmas.{never_workers}
use Rattle.statement.proofs.RollLemmas.{refused_first, roll_gives, second_never_workers, workers_allowed, workers_refused}
use Rattle.statement.proofs.roll.roll.Goals as goal

pub returns-then-workers-eq0-clause-text : goal.returns-then-workers-eq0-clause-text
returns-then-workers-eq0-clause-text g c =
    let none_or_many : (c.args.workers ≡ 0) ⊎ (16 < c.args.workers) = search (rules, c.then-workers-eq0.either) in
    (refl, workers_refused c.args.workers c.args.params.now c.args.next.now c.args.positions.now none_or_many)

pub returns-in_err-today-clause-workers : goal.returns-in_err-today-clause-workers
returns-in_err-today-clause-workers g c =
    let refused : c.from_residual.result ≡ Err fault.Workers → c.accept_together.result ≡ Err fault.Workers = search rules in
    (λ e. absurd (never_workers _ c.accept_together.result _ _ c.accept_together.ensures.text (refused e)), λ w. absurd (omega arith))

pub returns-in_err-today-clause-text : goal.returns-in_err-today-clause-text
returns-in_err-today-clause-text g c =
    let is : c.from_residual.result ≡ Err c.in_err-today.field-0.0 = search rules in
    rw (is) (refused_first c.args.workers c.args.params.now c.args.next.now c.args.positions.now _
    (workers_allowed c.args.workers _ _ (omega arith) (omega arith)) c.in_err-today.ensures.text)

pub returns-clause-workers : goal.returns-clause-workers
returns-clause-workers g c =
    (λ e. absurd (second_never_workers c.args.next.now _ (rw e at c.roll_named.ensures.fault)), λ w. absurd (omega arith))

pub returns-clause-text : goal.returns-clause-text
returns-clause-text g c =
    roll_gives (λ text. text.items) c.args.workers c.args.params.now c.args.next.now c.args.positions.now _ _
    c.roll_named.result
    (workers_allowed c.args.workers _ _ (omega arith) (omega arith) ∙ c.in_ok-today.ensures.text)
    c.in_ok-today.ensures.accepted.records c.roll_named.ensures.text c.roll_named.ensures.fault
