use Rattle.plan_compiler.proofs.PlanLaw.{plan_keeps_law}
use Rattle.plan_compiler.proofs.laws.plans_keep_the_plan_law.Goals as goal

pub returns : goal.returns
returns c = plan_keeps_law
