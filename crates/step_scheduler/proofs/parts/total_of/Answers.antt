use Rattle.std.proofs.Common.{◌+◌, ◌∙◌, arith, length}
use Rattle.plan_ir.specs.Figures.{total_to}
use Rattle.plan_ir.proofs.FigureBounds.{next_total_is_money}
use Rattle.plan_compiler.proofs.Meanings.{total_more}
use Rattle.step_scheduler.proofs.HeldLemmas.{next_part, no_part}
use Rattle.step_scheduler.proofs.PassedOver.{totals_over, total_with}
use Rattle.step_scheduler.proofs.parts.total_of.Goals as goal

pub loop-part-init : goal.loop-part-init
unfolding total_to
loop-part-init c = (0, c.requires.parts, c.new-total.ensures)

pub of-requires-clause-known : goal.of-requires-clause-known
of-requires-clause-known c =
    let here = next_part _ _ c.args.parts.now c.loop-part.part-index c.loop-part.invariant.0 c.part-item.result c.loop-part-test.true
    c.part-item.is c.loop-part.invariant.1 in
    omega (arith, here.0.known, c.known.ensures.commodities)

pub of-requires-clause-placed : goal.of-requires-clause-placed
of-requires-clause-placed c =
    let here = next_part _ _ c.args.parts.now c.loop-part.part-index c.loop-part.invariant.0 c.part-item.result c.loop-part-test.true
    c.part-item.is c.loop-part.invariant.1 in
    (c.requires.figures.each c.part-item.result.commodity here.0.known).placed

pub sum-total-requires : goal.sum-total-requires
sum-total-requires c =
    let here = next_part _ _ c.args.parts.now c.loop-part.part-index c.loop-part.invariant.0 c.part-item.result c.loop-part-test.true
    c.part-item.is c.loop-part.invariant.1 in
    rw (total_with _ _ _ _ _ _ _ here.0 (c.requires.figures.each _ here.0.known) (c.of.ensures _) c.loop-part.invariant.2)
    (next_total_is_money _ _ _ c.known.ensures c.known-2.ensures c.requires.fits here.0.known)

pub loop-part-preserved : goal.loop-part-preserved
loop-part-preserved c =
    let here = next_part _ _ c.args.parts.now c.loop-part.part-index c.loop-part.invariant.0 c.part-item.result c.loop-part-test.true
    c.part-item.is c.loop-part.invariant.1 in
    let total = total_with _ _ _ _ _ _ _ here.0 (c.requires.figures.each _ here.0.known) (c.of.ensures _) c.loop-part.invariant.2 in
    (c.part-item.result.commodity + 1, here.2, c.sum-total.ensures ∙ total ∙ total_more _ _ _)

pub returns : goal.returns
returns c =
    let end = no_part _ _ c.args.parts.now c.loop-part.part-index c.loop-part.invariant.0 c.loop-part-test.false c.loop-part.invariant.1 in
    c.loop-part.invariant.2 ∙ totals_over _ _ _ (length (c.args.tables.now).commodities) end.behind (omega arith) end.none
