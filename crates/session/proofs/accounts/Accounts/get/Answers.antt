use Rattle.std.proofs.Common.{◌∙◌, ap}
use Rattle.session.specs.Accounts.{account_named}
use Rattle.session.proofs.AccountLemmas.{named-kept}
use Rattle.session.proofs.accounts.Accounts.get.Goals as goal

pub returns : goal.returns
returns c =
    c.get.ensures.value
    ∙ named-kept c.self.inside.by_name.entries c.self.invariant c.args.name.now
    ∙ ap (λ accounts. account_named accounts c.args.name.now) c.self.view_is
