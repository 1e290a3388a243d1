use Rattle.std.proofs.Common.{◌≡◌, ◌∙◌, List, [], ap, arith, length, min, subst, take, drop}
use Rattle.std.proofs.lemmas.Grind.{common_steps}
use Rattle.std.proofs.lemmas.List.{append-nil, nil_from_length}
use Rattle.span_money.specs.declared.bits.TheConstants.{BITS}
use Rattle.span_tables.specs.declared.leg_index.LegIndex.{LegIndex}
use Rattle.inter_credit.specs.near.Index.{AreBlocks}
use Rattle.inter_credit.proofs.IndexLemmas.{block_added}
use Rattle.inter_credit.proofs.index.SpreadIndex.new.Goals as goal

pub loop-left-preserved : goal.loop-left-preserved
loop-left-preserved c =
    let left = c.loop-left.left.now in
    let mid : c.min.result ≡ min BITS (length left) = omega arith in
    block_added c.loop-left.blocks.items _ c.block_of.result c.args.spreads.now left _ _ c.in_ok-push.ensures.items
    (c.split_at.ensures.front ∙ ap (λ n. take n left) mid) (c.split_at.ensures.back ∙ ap (λ n. drop n left) mid)
    c.block_of.ensures c.loop-left.invariant

pub returns : goal.returns
returns c =
    let left = c.loop-left.left.now in
    let none : length left ≡ 0 = grind (arith, common_steps) in
    subst (λ (bs : List LegIndex). AreBlocks bs c.args.spreads.now) (append-nil c.loop-left.blocks.items)
    (c.loop-left.invariant [] (nil_from_length left none))
