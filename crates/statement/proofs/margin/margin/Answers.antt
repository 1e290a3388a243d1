use Rattle.std.proofs.Common.{◌≡◌, Err, rules, arith}
use Rattle.statement_text.specs.declared.faults.SpanFault.TheVariants as fault
use Rattle.statement_text.proofs.FaultLemmas.{never_workers}
use Rattle.statement.proofs.margin.margin.Goals as goal

pub returns-in_err-set-clause-workers : goal.returns-in_err-set-clause-workers
returns-in_err-set-clause-workers g c =
    let refused : c.from_residual.result ≡ Err fault.Workers → c.accept_together.result ≡ Err fault.Workers = search rules in
    (λ e. absurd (never_workers _ c.accept_together.result _ _ c.accept_together.ensures.text (refused e)), λ w. absurd (omega arith))
