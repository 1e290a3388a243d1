use Rattle.std.proofs.Common.{◌∙◌, sym}
use Rattle.std.specs.Arc.{arc_value}
use Rattle.std.proofs.lemmas.Bool.{false≢true}
use Rattle.step_scheduler.proofs.BoardLemmas.{complete_where_done}
use Rattle.step_scheduler.proofs.GoesOn.{board_goes_on}
use Rattle.step_scheduler.proofs.boards.Board.is_complete.Goals as goal

pub returns-in-Stepped-clause-goes_on : goal.returns-in-Stepped-clause-goes_on
returns-in-Stepped-clause-goes_on c =
    let b = rw c.in-Stepped.is at c.self.invariant in
    λ no live. rw (← c.self.view_is, c.in-Stepped.is) (board_goes_on _ _ _ _ b.board
    (λ all. false≢true (sym no ∙ c.all_done.ensures.1 (rw c.as_slice.ensures.value all))))

pub returns-in-Stepped-clause-complete : goal.returns-in-Stepped-clause-complete
returns-in-Stepped-clause-complete c =
    let b = rw c.in-Stepped.is at c.self.invariant in
    let done = rw c.as_slice.ensures.value at c.all_done.ensures in
    let same =
    complete_where_done (arc_value c.self.inside.job) _ c.in-Stepped.stepped.history.items _ c.self.inside.failed b.board c.if-self.false in
    rw (← c.self.view_is, c.in-Stepped.is) ((λ yes. same.0 (done.0 yes)), (λ complete. done.1 (same.1 complete)))
