use Rattle.std.proofs.Common.{[], ◌∷◌, None, Some, refl}
use Rattle.std.proofs.lemmas.Result.{err_from_is_err_and}
use Rattle.desks.proofs.TakingLemmas.{takes_line}
use Rattle.desks.proofs.intake.Requests.take_line.Goals as goal

pub returns-in-Line-clause-takes : goal.returns-in-Line-clause-takes
returns-in-Line-clause-takes g c =
    takes_line c.complete-completed.result c.args.self.now.reach c.reached-self.result _ _ c.complete-completed.new.line
    (Some c.close.new.self.bytes ∷ []) c.complete-completed.ensures.reads c.complete-completed.ensures.end c.requires c.reached-self.ensures
    (rw c.in_ok-is_complete.was c.in-Line.ensures.request)

pub returns-in-TooLong-clause-takes : goal.returns-in-TooLong-clause-takes
returns-in-TooLong-clause-takes g c =
    takes_line c.complete-completed.result c.args.self.now.reach c.reached-self.result _ _ c.complete-completed.new.line
    (None ∷ []) c.complete-completed.ensures.reads c.complete-completed.ensures.end c.requires c.reached-self.ensures
    (rw c.in_ok-is_complete.was c.in-TooLong.ensures.request)

pub returns-in-Empty-clause-takes : goal.returns-in-Empty-clause-takes
returns-in-Empty-clause-takes g c =
    takes_line c.complete-completed.result c.args.self.now.reach c.reached-self.result _ _ c.complete-completed.new.line
    [] c.complete-completed.ensures.reads c.complete-completed.ensures.end c.requires c.reached-self.ensures
    (rw c.in_ok-is_complete.was c.in-Empty.ensures.request)

pub returns-in-Empty-2-clause-takes : goal.returns-in-Empty-2-clause-takes
returns-in-Empty-2-clause-takes g c =
    takes_line c.complete-completed.result c.args.self.now.reach c.reached-self.result _ _ c.complete-completed.new.line
    [] c.complete-completed.ensures.reads c.complete-completed.ensures.end c.requires c.reached-self.ensures
    (rw c.in_ok-is_complete.was c.in-Empty-2.ensures.request)

pub returns-in_err-is_complete-clause-takes : goal.returns-in_err-is_complete-clause-takes
returns-in_err-is_complete-clause-takes g c =
    let p = err_from_is_err_and c.from_residual.result c.from_residual.ensures.1 in
    rw p.1 (takes_line c.complete-completed.result c.args.self.now.reach c.reached-self.result _ _ c.complete-completed.new.line
    [] c.complete-completed.ensures.reads c.complete-completed.ensures.end c.requires c.reached-self.ensures
    (rw c.in_err-is_complete.was refl))
