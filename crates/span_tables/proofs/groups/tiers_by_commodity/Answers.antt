use Rattle.std.proofs.Common.{◌∙◌}
use Rattle.span_tables.proofs.GroupLemmas.{copies_more, copies_none, place_within}
use Rattle.span_tables.proofs.groups.tiers_by_commodity.Goals as goal

pub loop-tier-init : goal.loop-tier-init
loop-tier-init c = c.in_ok-lists.ensures ∙ copies_none (λ d. d.id) (λ x. x.commodity) c.args.commodities.now

pub push_at-requires : goal.push_at-requires
push_at-requires c =
    place_within (λ d. d.id) (λ x. x.commodity) _ _ c.args.commodities.now c.args.tiers.now _ _ _ _ c.loop-tier.invariant c.requires.known
    c.loop-tier-test.true c.tier-item.is c.number_near-place.ensures

pub loop-tier-preserved : goal.loop-tier-preserved
loop-tier-preserved c =
    copies_more (λ d. d.id) (λ x. x.commodity) c.args.commodities.now c.args.tiers.now _ _ _ _ _ _ c.requires.apart c.loop-tier-test.true
    c.requires.known c.loop-tier.invariant c.tier-item.is c.number_near-place.ensures c.copied.ensures c.in_ok-push_at.ensures.items
