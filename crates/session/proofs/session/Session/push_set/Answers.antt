use Rattle.std.proofs.Common.{◌≡◌, ◌∙◌, Err, ap, length, subst, sym, true}
use Rattle.std.specs.Prelude.{All}
use Rattle.std.proofs.lemmas.Result.{err_from_is_err_and}
use Rattle.std.specs.Arc.{arc_value}
use Rattle.plan_compiler.specs.Compiled.{SetView}
use Rattle.span_tables.specs.Holdings.{fits}
use Rattle.span_tables.specs.Net.{AccountHoldings}
use Rattle.span_tables.specs.Tables.{AcceptedTables}
use Rattle.session.specs.Answers.{State}
use Rattle.session.proofs.CarryLemmas.{under_fit}
use Rattle.session.proofs.SessionLemmas.{lost_refused}
use Rattle.session.proofs.session.Session.push_set.Goals as goal

pub returns-in_err-accounts-clause-answer : goal.returns-in_err-accounts-clause-answer
returns-in_err-accounts-clause-answer c =
    let r = c.in_err-accounts.field-0.0 in
    let s = c.args.self.now in
    let t = (arc_value c.in_ok-set.set).tables in
    let p = err_from_is_err_and c.from_residual-in_err-accounts.result c.from_residual-in_err-accounts.ensures.1 in
    let is : c.from_residual-in_err-accounts.result ≡ Err r = p.1 ∙ ap Err p.2 in
    rw (is, c.in_ok-set.ensures.set s) (lost_refused s t c.tables.result.now.contracts c.tables-2.result.now.contracts
    c.self.inside.accounts r
    (ap (λ (tables : AcceptedTables). tables.contracts) c.tables.ensures
    ∙ ap (λ (set : SetView). set.tables.contracts) c.deref.ensures ∙ ap (λ (z : State). z.tables.contracts) c.self.view_is)
    (ap (λ (tables : AcceptedTables). tables.contracts) c.tables-2.ensures
    ∙ ap (λ (set : SetView). set.tables.contracts) (c.deref-2.ensures ∙ c.in_ok-set-2.ensures))
    (ap (λ (z : State). z.accounts) c.self.view_is)
    c.in_err-accounts.ensures.lost)

pub returns-in_err-push_counts-clause-answer : goal.returns-in_err-push_counts-clause-answer
returns-in_err-push_counts-clause-answer c =
    let p = err_from_is_err_and c.from_residual-in_err-push_counts.result c.from_residual-in_err-push_counts.ensures.1 in
    rw (p.1 ∙ ap Err p.2) tt

pub returns-clause-fits : goal.returns-clause-fits
returns-clause-fits c =
    let old = c.tables.result.now.contracts in
    let new = c.tables-2.result.now.contracts in
    let fit = under_fit old new c.self.inside.accounts in
    let here = subst (All (λ (p : AccountHoldings). fits (length new) p.holdings ≡ true)) (sym c.in_ok-accounts.ensures.accounts) fit in
    subst (λ (t : AcceptedTables). All (λ (p : AccountHoldings). fits (length t.contracts) p.holdings ≡ true) c.in_ok-accounts.accounts)
    (c.tables-2.ensures ∙ ap (λ (set : SetView). set.tables) c.deref-2.ensures) here
