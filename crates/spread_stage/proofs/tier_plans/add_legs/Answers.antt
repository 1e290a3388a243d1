use Rattle.spread_stage.proofs.tier_plans.add_legs.Goals as goal

pub returns-clause-kept : goal.returns-clause-kept
returns-clause-kept c k others indexed d = c.add.ensures.kept k _ _ (indexed d)
