use Rattle.std.proofs.Common.{subst}
use Rattle.session.specs.near.Kept.{AreOnce}
use Rattle.session.proofs.AccountLemmas.{once-kept}
use Rattle.session.proofs.accounts.Accounts.known.Goals as goal

pub returns : goal.returns
returns c = subst AreOnce c.self.view_is (once-kept c.self.inside.by_name.entries c.self.invariant c.len.ensures.unique)
