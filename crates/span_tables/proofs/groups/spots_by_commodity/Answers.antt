use Rattle.std.proofs.Common.{◌∙◌}
use Rattle.span_tables.proofs.GroupLemmas.{copies_more, copies_none, place_within}
use Rattle.span_tables.proofs.groups.spots_by_commodity.Goals as goal

pub loop-spot-init : goal.loop-spot-init
loop-spot-init c = c.in_ok-lists.ensures ∙ copies_none (λ d. d.id) (λ x. x.commodity) c.args.commodities.now

pub push_at-requires : goal.push_at-requires
push_at-requires c =
    place_within (λ d. d.id) (λ x. x.commodity) _ _ c.args.commodities.now c.args.spots.now _ _ _ _ c.loop-spot.invariant c.requires.known
    c.loop-spot-test.true c.spot-item.is c.number_near-place.ensures

pub loop-spot-preserved : goal.loop-spot-preserved
loop-spot-preserved c =
    copies_more (λ d. d.id) (λ x. x.commodity) c.args.commodities.now c.args.spots.now _ _ _ _ _ _ c.requires.apart c.loop-spot-test.true
    c.requires.known c.loop-spot.invariant c.spot-item.is c.number_near-place.ensures c.copied.ensures c.in_ok-push_at.ensures.items
