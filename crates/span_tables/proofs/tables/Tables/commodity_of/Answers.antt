use Rattle.std.proofs.Common.{◌<◌, ◌∙◌, ap, length, subst, sym}
use Rattle.span_tables.specs.Accepted.{IsWithinLimits}
use Rattle.span_tables.specs.near.Terms.{ContractsView, number_at}
use Rattle.span_tables.proofs.TermLemmas.{number_known, number_told}
use Rattle.span_tables.proofs.tables.Tables.commodity_of.Goals as goal

pub returns-clause-value : goal.returns-clause-value
returns-clause-value c =
    c.commodity_of.ensures ∙ ap (λ (k : ContractsView). number_at k.terms c.args.contract) c.deref.ensures
    ∙ number_told _ c.args.self.now _ c.args.contract c.self.view_is c.self.invariant.terms_are

pub returns-clause-known : goal.returns-clause-known
returns-clause-known c = λ lt.
    subst (λ n. n < length c.args.self.now.commodities) (sym (returns-clause-value c))
    (number_known c.args.self.now c.args.contract (subst IsWithinLimits c.self.view_is c.self.invariant.limits) lt)
