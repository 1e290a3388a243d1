use Rattle.std.proofs.Common.{◌≡◌, ◌∙◌, ap, bytes_eq, sym, subst}
use Rattle.std.specs.Map.{values_of}
use Rattle.indexmap.specs.IndexMap.{insert_entry}
use Rattle.session.specs.Accounts.{with_account}
use Rattle.session.specs.near.Kept.{AreUnderNames}
use Rattle.session.proofs.AccountLemmas.{once-kept, put-under, put-values}
use Rattle.session.proofs.accounts.Accounts.put.Goals as goal

pub returns-in_err-insert-clause-once : goal.returns-in_err-insert-clause-once
returns-in_err-insert-clause-once c =
    once-kept c.insert.new.self.entries (subst AreUnderNames (sym c.in_err-insert.ensures.err) c.self.invariant) c.insert.ensures.unique

put : (c : goal.Joined-branch-2)
    → c.insert.new.self.entries ≡ insert_entry bytes_eq c.self.inside.by_name.entries c.args.portfolio.account c.args.portfolio
put c =
    c.in_ok-insert.ensures.entries
    ∙ ap (λ name. insert_entry bytes_eq c.self.inside.by_name.entries name c.args.portfolio) (c.copied-name.ensures ∙ c.account.ensures)

pub invariant_of-self-2 : goal.invariant_of-self-2
invariant_of-self-2 c = subst AreUnderNames (sym (put c)) (put-under c.self.inside.by_name.entries c.self.invariant c.args.portfolio)

pub returns-clause-put : goal.returns-clause-put
returns-clause-put c =
    ap values_of (put c)
    ∙ put-values c.self.inside.by_name.entries c.self.invariant c.args.portfolio
    ∙ ap (λ accounts. with_account accounts c.args.portfolio) c.self.view_is

pub returns-clause-once : goal.returns-clause-once
returns-clause-once c = once-kept c.insert.new.self.entries (invariant_of-self-2 c) c.insert.ensures.unique
