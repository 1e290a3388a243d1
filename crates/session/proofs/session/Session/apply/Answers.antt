use Rattle.std.proofs.Common.{◌≡◌, List, rules, sym, subst}
use Rattle.span_tables.specs.Net.{AccountHoldings}
use Rattle.worker_pool.specs.Batches.{AllFit, FitsSet}
use Rattle.session.specs.Accounts.{with_account}
use Rattle.session.proofs.SessionLemmas.{all_with_account}
use Rattle.session.proofs.session.Session.apply.Goals as goal

pub invariant_of-self : goal.invariant_of-self
invariant_of-self c =
    let after = c.in-Account.after in
    let inside = c.self.inside in
    let here : FitsSet inside.set.value after = search rules in
    let put : c.put.new.self ≡ with_account inside.accounts after = c.in_ok-put-in-Account.ensures.put in
    subst (λ (ps : List AccountHoldings). AllFit inside.set.value ps) (sym put)
    (all_with_account (FitsSet inside.set.value) inside.accounts after here c.self.invariant)
