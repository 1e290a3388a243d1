use Rattle.std.proofs.Common.{[], ap, sym}
use Rattle.plan_compiler.specs.Compiled.{SetView}
use Rattle.session.proofs.session.Session.over.Goals as goal

pub returns-clause-text : goal.returns-clause-text
returns-clause-text c =
    c.in_ok-text.ensures (record { tables = c.in_ok-set.set.value.tables; accounts = [] })
    (ap (λ (v : SetView). v.tables) (sym c.deref.ensures))
