use Rattle.std.proofs.Common.{◌≡◌, ◌∙◌, Err, Ok, ap, inl, inr, rules, sym}
use Rattle.std.specs.Arc.{arc_value}
use Rattle.session.proofs.SessionLemmas.{accepted_opened, faults_opened}
use Rattle.session.proofs.session.Session.open.Goals as goal

pub returns-in_err-set-clause-state : goal.returns-in_err-set-clause-state
returns-in_err-set-clause-state g c =
    let is : c.from_residual.result ≡ Err c.in_err-set.field-0.0 = search rules in
    rw (is) (elim c.in_err-set.ensures.text [
      | inl memory ↦ inl memory
      | inr fault ↦ inr (fault.0, faults_opened c.args.params.now c.args.positions.now c.in_err-set.field-0.0 fault.1)
    ])

pub returns-clause-state : goal.returns-clause-state
returns-clause-state g c =
    let accepted = c.in_ok-set.field-0 in
    accepted_opened c.args.params.now c.args.positions.now (arc_value accepted.set).tables accepted.positions accepted.portfolios
    c.in_ok-set.ensures.accepted.tables c.in_ok-set.ensures.accepted.records c.in_ok-set.ensures.accepted.bound.portfolios
    ∙ ap Ok (sym (search rules))
