use Rattle.std.proofs.Common.{◌≡◌}
use Rattle.std.proofs.lemmas.Result.{IfOk-at_ok}
use Rattle.statement_text.specs.Statement.{statement_text}
use Rattle.worker_teams.proofs.TextLemmas.{texts_joined}
use Rattle.worker_teams.proofs.texts.+texts.Goals as goal

pub returns : goal.returns
returns g t c =
    let tables = c.args.course.now.set.tables in
    let cut = c.in_ok-slice.ensures in
    rw c.in_ok-append.ensures.items (texts_joined tables _ _ _ _ _ _ cut.items cut.tail
    (IfOk-at_ok (λ text. text.items ≡ statement_text tables _) c.in_ok-text.was c.join-last.ensures.second)
    (IfOk-at_ok (λ text. text.items ≡ statement_text tables _) c.in_ok-last.was c.join-last.ensures.first))
