use Rattle.std.proofs.Common.{◌≡◌, ◌<◌, ◌∙◌, arith, length, slice_index, sym}
use Rattle.std.proofs.lemmas.List.{get_or_default}
use Rattle.std.specs.Arc.{arc_value}
use Rattle.plan_ir.specs.Plans.{inputs_at}
use Rattle.step_scheduler.proofs.Counted.{open_is_unfinished}
use Rattle.step_scheduler.proofs.WholeLemmas.{none_missing}
use Rattle.step_scheduler.proofs.boards.Board.missing.Goals as goal

pub returns-in-Stepped : goal.returns-in-Stepped
returns-in-Stepped c =
    let b = rw c.in-Stepped.is at c.self.invariant in
    let here : c.args.k < length (arc_value c.self.inside.job).set.plan = rw (← c.self.view_is) at c.requires in
    let read : c.index.result.now ≡ slice_index c.in-Stepped.stepped.missing.items c.args.k =
    c.index.ensures ∙ get_or_default c.in-Stepped.stepped.missing.items c.args.k _ 0 (let l = b.counted.long in omega arith) in
    rw (← c.self.view_is, c.in-Stepped.is) (read ∙ b.counted.missing_is c.args.k here
    ∙ open_is_unfinished c.in-Stepped.stepped.steps.items c.in-Stepped.stepped.history.items b.board.finished
    (inputs_at (arc_value c.self.inside.job).set.plan c.args.k))

pub returns-in-Whole : goal.returns-in-Whole
returns-in-Whole c =
    let w = rw c.in-Whole.is at c.self.invariant in
    rw (← c.self.view_is, c.in-Whole.is) (sym (none_missing _ _ w.compiled w.course c.args.k (rw (← c.self.view_is) at c.requires)))
