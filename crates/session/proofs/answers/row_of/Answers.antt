use Rattle.std.proofs.Common.{rules, ◌≡◌, ◌∙◌, Some, ap, length, subst, sym, true}
use Rattle.span_tables.specs.Holdings.{fits}
use Rattle.span_tables.specs.Net.{AccountHoldings}
use Rattle.step_scheduler.specs.Rows.{RowView}
use Rattle.explanation.proofs.FileLemmas.{found_fits}
use Rattle.session.specs.Accounts.{account_named}
use Rattle.session.proofs.answers.row_of.Goals as goal

pub row-requires : goal.row-requires
row-requires c =
    let n = length c.args.set.now.tables.contracts in
    let found : account_named c.args.accounts.now c.args.account.now ≡ Some c.in-Some.portfolio.now = search rules in
    subst (λ (p : AccountHoldings). fits n p.holdings ≡ true) (sym c.in_ok-copied-in-Some.ensures)
    (found_fits n c.args.account.now c.args.accounts.now c.in-Some.portfolio.now found c.requires)

pub returns-in_ok-row-in-Some-clause-fits : goal.returns-in_ok-row-in-Some-clause-fits
returns-in_ok-row-in-Some-clause-fits c =
    let n = length c.args.set.now.tables.contracts in
    let found : account_named c.args.accounts.now c.args.account.now ≡ Some c.in-Some.portfolio.now = search rules in
    subst (λ (p : AccountHoldings). fits n p.holdings ≡ true)
    (sym (ap (λ (r : RowView). r.portfolio) c.in_ok-row-in-Some.ensures.row ∙ c.in_ok-copied-in-Some.ensures))
    (found_fits n c.args.account.now c.args.accounts.now c.in-Some.portfolio.now found c.requires)
