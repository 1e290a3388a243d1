use Rattle.std.proofs.Common.{◌∙◌, ap, length, arith}
use Rattle.plan_ir.proofs.UserLemmas.{as_many_steps, inputs_are}
use Rattle.plan_ir.specs.Plans.{inputs_at}
use Rattle.plan_ir.proofs.plans.Plan.inputs.Goals as goal

pub at-requires : goal.at-requires
at-requires c =
    let parts = c.self.invariant in
    let many = as_many_steps c.self.inside.ops.items c.self.inside.inputs parts.as_many in
    omega (arith, c.requires, parts.as_many, many, ap length c.self.view_is)

pub returns : goal.returns
returns c =
    let parts = c.self.invariant in
    let many = as_many_steps c.self.inside.ops.items c.self.inside.inputs parts.as_many in
    c.at.ensures
    ∙ inputs_are c.self.inside.ops.items c.self.inside.inputs c.args.k parts.as_many
    (omega (arith, c.requires, many, ap length c.self.view_is))
    ∙ ap (λ plan. inputs_at plan c.args.k) c.self.view_is
