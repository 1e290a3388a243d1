use Rattle.std.proofs.Common.{◌∙◌, List, ap, arith, subst}
use Rattle.std.proofs.lemmas.List.{get_or_default}
use Rattle.span_tables.specs.declared.records.CommodityLeg.{CommodityLeg}
use Rattle.span_tables.specs.declared.records.Inter.{Inter}
use Rattle.inter_credit.specs.near.Index.{HasSpread}
use Rattle.inter_credit.proofs.IndexLemmas.{covered_to}
use Rattle.inter_credit.proofs.index.block_of.Goals as goal

pub loop-number-preserved : goal.loop-number-preserved
loop-number-preserved c =
    let spreads = c.args.spreads.now in
    let number = c.loop-number.number in
    covered_to _ _ spreads number c.add.ensures.kept c.loop-number.invariant
    (λ d. subst (λ (legs : List CommodityLeg). HasSpread c.add.new.block number legs)
    (c.legs.ensures ∙ ap (λ (x : Inter). x.legs)
    (c.index-spreads-number.is ∙ get_or_default spreads number c.index-spreads-number.result d c.loop-number-test.true))
    c.add.ensures.added)

pub returns : goal.returns
returns c = λ number d lt. c.loop-number.invariant number d (omega (arith, lt))
