use Rattle.plan_ir.specs.declared.ops.Op.TheVariants as op
use Rattle.plan_compiler.proofs.PlanLaw.{step_at_place}
use Rattle.plan_compiler.proofs.set.CompiledSet.final_step.Goals as goal

pub returns : goal.returns
returns c =
    let known = rw (← c.self.view_is) at c.requires in
    let place = rw c.deref.ensures at c.final_step.ensures in
    let step = step_at_place _ _ _ _ _ c.self.invariant.0 _ c.self.view_is (op.Final c.args.commodity) known _ place in
    record { in_range = step.0; op = step.1 }
