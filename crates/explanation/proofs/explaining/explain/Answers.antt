use Rattle.std.proofs.Common.{◌≡◌, ℕ, Err, Global, Vec, inl, inr, rules, sym, subst}
use Rattle.std.specs.Arc.{arc_value}
use Rattle.std.specs.Option.{option_copied}
use Rattle.statement_text.specs.Gives.{Gives}
use Rattle.explanation.proofs.FileLemmas.{accepted_explained, faults_explained}
use Rattle.explanation.proofs.explaining.explain.Goals as goal

pub returns-in_err-set : goal.returns-in_err-set
returns-in_err-set c =
    let is : c.from_residual.result ≡ Err c.in_err-set.field-0.0 = search rules in
    rw (is) (elim c.in_err-set.ensures.text [
      | inl memory ↦ inl memory
      | inr fault ↦
          inr (
            fault.0,
            faults_explained c.args.params.now c.args.positions.now (option_copied c.args.account)
                c.in_err-set.field-0.0 fault.1,
          )
    ])

pub returns : goal.returns
returns c =
    let accepted = c.in_ok-set.field-0 in
    subst (λ answer. Gives (λ (text : Vec ℕ Global). text.items) c.explained.result answer)
    (sym (accepted_explained c.args.params.now c.args.positions.now (option_copied c.args.account)
    (arc_value accepted.set).tables accepted.positions accepted.portfolios c.in_ok-set.ensures.accepted.tables
    c.in_ok-set.ensures.accepted.records c.in_ok-set.ensures.accepted.bound.portfolios)) c.explained.ensures
