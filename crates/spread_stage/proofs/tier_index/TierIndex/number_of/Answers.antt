use Rattle.std.proofs.Common.{sym, ◌∙◌}
use Rattle.spread_stage.proofs.TierNumberLemmas.{only_tier}
use Rattle.spread_stage.proofs.tier_index.TierIndex.number_of.Goals as goal

pub returns-then-has_month : goal.returns-then-has_month
returns-then-has_month c =
    only_tier c.args.tiers.now c.requires c.args.month c.from-near.result c.index-tiers-near.result c.if-near-tiers.true
    (sym c.index-tiers-near.is) (sym c.has_month.ensures ∙ c.if-has_month.true)
