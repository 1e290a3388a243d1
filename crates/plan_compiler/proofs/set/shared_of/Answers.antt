use Rattle.plan_compiler.proofs.PlanLaw.{made_set, plan_keeps_law}
use Rattle.plan_compiler.proofs.set.shared_of.Goals as goal

pub beginnings-requires-clause-few_steps : goal.beginnings-requires-clause-few_steps
beginnings-requires-clause-few_steps c =
    rw c.in_ok-plan.ensures (plan_keeps_law c.args.tables c.known.ensures).few_steps

pub beginnings-requires-clause-few_inputs : goal.beginnings-requires-clause-few_inputs
beginnings-requires-clause-few_inputs c =
    rw c.in_ok-plan.ensures (plan_keeps_law c.args.tables c.known.ensures).few_inputs

pub returns-clause-set : goal.returns-clause-set
returns-clause-set c =
    made_set c.args.tables c.known.ensures c.in_ok-plan.plan c.in_ok-firsts.firsts.items c.in_ok-missing.missing.items
    c.in_ok-missing.ready.items c.in_ok-plan.ensures c.in_ok-firsts.ensures c.in_ok-missing.ensures.counts c.in_ok-missing.ensures.without
