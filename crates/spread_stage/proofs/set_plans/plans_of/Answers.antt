use Rattle.spread_stage.proofs.SetPlanLemmas.{plan_made, plans_more}
use Rattle.spread_stage.proofs.set_plans.plans_of.Goals as goal

pub loop-commodity-preserved : goal.loop-commodity-preserved
loop-commodity-preserved c =
    plans_more c.args.tables.now c.loop-commodity.commodity _ _ c.in_ok-new.field-0 c.loop-commodity.invariant
    (plan_made c.args.tables.now _ c.in_ok-new.field-0 c.tiers_of-tiers.result.now c.intras.result.now c.spots-spots.result.now
    c.tiers_of-tiers.ensures.value c.intras.ensures.value c.spots-spots.ensures.value c.in_ok-new.ensures)
    c.in_ok-push.ensures.items
