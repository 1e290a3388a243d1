use Rattle.spread_stage.proofs.SetPlanLemmas.{AreFirstPlans}
use Rattle.spread_stage.proofs.set_plans.plans_of.Given as goal

abbrev pub invariant-loop-commodity : goal.invariant-loop-commodity
invariant-loop-commodity l = AreFirstPlans l.tables l.commodity l.plans.items
