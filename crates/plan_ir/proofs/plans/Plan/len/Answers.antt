use Rattle.std.proofs.Common.{◌∙◌, ap, sym, length}
use Rattle.plan_ir.proofs.UserLemmas.{as_many_steps}
use Rattle.plan_ir.proofs.plans.Plan.len.Goals as goal

pub returns : goal.returns
returns c =
    ap length c.as_slice.ensures.value ∙ sym (as_many_steps c.self.inside.ops.items c.self.inside.inputs c.self.invariant.as_many)
    ∙ ap length c.self.view_is
