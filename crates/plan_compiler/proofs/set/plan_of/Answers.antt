use Rattle.std.proofs.lemmas.List.Elements.{All-weaker}
use Rattle.plan_ir.specs.Apply.{IsOp}
use Rattle.plan_compiler.specs.Plan.{ops_of}
use Rattle.plan_compiler.proofs.FromPlan.{known_ops}
use Rattle.plan_compiler.proofs.LayoutLemmas.{IsPlanned, planned_is_op}
use Rattle.plan_compiler.proofs.PlanLaw.{are_inputs, made_plan}
use Rattle.plan_compiler.proofs.set.plan_of.Goals as goal

pub inputs_of_all-requires-clause-known : goal.inputs_of_all-requires-clause-known
inputs_of_all-requires-clause-known c = rw (c.deref.ensures.value, c.in_ok-ops.ensures)
    (All-weaker (IsPlanned c.args.tables.now) (IsOp c.args.tables.now) (planned_is_op c.args.tables.now)
    (ops_of c.args.tables.now) (known_ops c.args.tables.now))

pub new-requires : goal.new-requires
new-requires c =
    rw (c.in_ok-inputs.ensures, c.deref.ensures.value, c.in_ok-ops.ensures)
    (are_inputs c.args.tables.now c.known.ensures)

pub returns : goal.returns
returns c =
    made_plan c.args.tables.now c.in_ok-plan.plan c.in_ok-ops.ops.items c.deref.result.now c.in_ok-inputs.inputs c.in_ok-plan.ensures
    c.in_ok-inputs.ensures c.deref.ensures.value c.in_ok-ops.ensures
