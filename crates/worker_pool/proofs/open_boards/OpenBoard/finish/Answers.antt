use Rattle.worker_pool.proofs.TurnLemmas.{some_if_some, taken_stays}
use Rattle.worker_pool.proofs.open_boards.OpenBoard.finish.Goals as goal

pub returns-clause-taken : goal.returns-clause-taken
returns-clause-taken g c =
    let some = some_if_some c.value.result c.into_finished-finished.result.value _ c.in_ok-_value.ensures.variant c.value.ensures in
    taken_stays c.args.self.now.board c.finish.new.self _ c.into_finished-finished.result.value c.finish.result some
    c.finish.ensures.refused c.finish.ensures.value
