use Rattle.std.proofs.Common.{◌∙◌, ◌<◌, ap, sym, length, slice_index_or, arith, []}
use Rattle.plan_ir.proofs.UserLemmas.{all_inputs, as_many_steps, length_places, places_at}
use Rattle.plan_ir.specs.Plans.{inputs_in, places_from}
use Rattle.plan_ir.proofs.plans.Plan.users.Goals as goal

pub at-requires : goal.at-requires
at-requires c =
    let parts = c.self.invariant in
    let many = as_many_steps c.self.inside.ops.items c.self.inside.inputs parts.as_many in
    let all = length_places (length c.self.inside.ops.items) c.self.inside.inputs in
    omega (arith, c.requires, many, all, ap length c.self.view_is, ap length parts.users_are)

pub returns : goal.returns
returns c =
    let parts = c.self.invariant in
    let ops = c.self.inside.ops.items in
    let lists = c.self.inside.inputs in
    let many = as_many_steps ops lists parts.as_many in
    let below : c.args.k < length ops = omega (arith, c.requires, many, ap length c.self.view_is) in
    c.at.ensures ∙ ap (λ users. slice_index_or users c.args.k []) parts.users_are ∙ places_at (length ops) lists c.args.k below
    ∙ ap (places_from 0 c.args.k) (sym (all_inputs ops lists parts.as_many) ∙ ap inputs_in c.self.view_is)
