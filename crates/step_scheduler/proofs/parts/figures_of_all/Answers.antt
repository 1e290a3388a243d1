use Rattle.std.proofs.Common.{◌+◌, arith}
use Rattle.step_scheduler.proofs.FilledLemmas.{all_filled, none_filled, part_filled}
use Rattle.step_scheduler.proofs.HeldLemmas.{few_parts, next_part, no_part}
use Rattle.step_scheduler.proofs.PartBounds.{has_state}
use Rattle.step_scheduler.proofs.parts.figures_of_all.Goals as goal

pub with_capacity-requires : goal.with_capacity-requires
with_capacity-requires c =
    let few = few_parts _ _ c.args.parts.now 0 c.requires.parts in
    omega (arith, few, c.known.ensures.commodities)

pub figures_with-requires : goal.figures_with-requires
figures_with-requires c =
    let here = next_part _ _ c.args.parts.now c.loop-part.part-index c.loop-part.invariant.0 c.part-item.result c.loop-part-test.true
    c.part-item.is c.loop-part.invariant.1 in
    has_state _ _ c.known.ensures c.known-2.ensures c.requires.fits c.part-item.result here.1 _ here.0.known c.requires.states

pub push-requires-clause-known : goal.push-requires-clause-known
push-requires-clause-known c =
    let here = next_part _ _ c.args.parts.now c.loop-part.part-index c.loop-part.invariant.0 c.part-item.result c.loop-part-test.true
    c.part-item.is c.loop-part.invariant.1 in
    omega (arith, here.0.known, c.known.ensures.commodities)

pub push-requires-clause-few : goal.push-requires-clause-few
push-requires-clause-few c =
    let here = next_part _ _ c.args.parts.now c.loop-part.part-index c.loop-part.invariant.0 c.part-item.result c.loop-part-test.true
    c.part-item.is c.loop-part.invariant.1 in
    omega (arith, here.0.known, here.0.behind, c.known.ensures.commodities, c.loop-part.invariant.2.few)

pub loop-part-init : goal.loop-part-init
loop-part-init c = (
  0,
  c.requires.parts,
  none_filled _ _ c.known.ensures.commodities _ c.in_ok-held.ensures.figures c.in_ok-held.ensures.places,
)

pub loop-part-preserved : goal.loop-part-preserved
loop-part-preserved c =
    let here = next_part _ _ c.args.parts.now c.loop-part.part-index c.loop-part.invariant.0 c.part-item.result c.loop-part-test.true
    c.part-item.is c.loop-part.invariant.1 in (
      c.part-item.result.commodity + 1,
      here.2,
      part_filled _ _ c.known.ensures.commodities c.part-item.result c.args.states.now _ _ _ _ here.0 here.1 c.requires.states
          c.loop-part.invariant.2 c.figures_with.ensures c.in_ok-push.ensures.figures c.in_ok-push.ensures.places,
    )

pub returns : goal.returns
returns c =
    let end = no_part _ _ c.args.parts.now c.loop-part.part-index c.loop-part.invariant.0 c.loop-part-test.false c.loop-part.invariant.1 in
    all_filled _ _ c.known.ensures.commodities _ _ end c.loop-part.invariant.2
