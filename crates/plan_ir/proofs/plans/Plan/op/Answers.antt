use Rattle.std.proofs.Common.{◌∙◌, ap, length, slice_index_or, arith}
use Rattle.plan_ir.proofs.UserLemmas.{as_many_steps, op_is}
use Rattle.plan_ir.specs.Plans.{op_at}
use Rattle.plan_ir.specs.declared.ops.Op.TheVariants as op
use Rattle.plan_ir.proofs.plans.Plan.op.Goals as goal

pub op_in-requires : goal.op_in-requires
op_in-requires c =
    let parts = c.self.invariant in
    let many = as_many_steps c.self.inside.ops.items c.self.inside.inputs parts.as_many in
    omega (arith, c.requires, many, ap length c.self.view_is, ap length c.deref.ensures.value)

pub returns : goal.returns
returns c =
    let parts = c.self.invariant in
    let many = as_many_steps c.self.inside.ops.items c.self.inside.inputs parts.as_many in
    c.op_in.ensures op.TotalStart ∙ ap (λ ops. slice_index_or ops c.args.k op.TotalStart) c.deref.ensures.value
    ∙ op_is c.self.inside.ops.items c.self.inside.inputs c.args.k op.TotalStart parts.as_many
    (omega (arith, c.requires, many, ap length c.self.view_is))
    ∙ ap (λ plan. op_at plan c.args.k) c.self.view_is
