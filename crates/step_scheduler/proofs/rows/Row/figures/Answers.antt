use Rattle.std.proofs.Common.{◌∙◌, sym}
use Rattle.step_scheduler.proofs.rows.Row.figures.Goals as goal

pub returns : goal.returns
returns c =
    let known = rw (← c.self.view_is) at c.requires in
    let here = c.self.invariant.figures_are.each c.args.commodity known in
    rw (← c.self.view_is) (sym (c.of.ensures c.of.result.now) ∙ here.right c.of.result.now)
