use Rattle.std.proofs.Common.{◌≡◌, ◌∙◌, ◌+◌, List, [], ap, drop, get_or, length, refl, subst, sym, take, ℕ}
use Rattle.std.specs.Prelude.{All, fold}
use Rattle.std.proofs.lemmas.List.{take_min, drop_min}
use Rattle.std.proofs.lemmas.List.Elements.{All-drop}
use Rattle.span_tables.specs.Accepted.{IsInter}
use Rattle.inter_credit.specs.Credits.{inter_both_ways}
use Rattle.span_money.specs.declared.bits.TheConstants.{BITS}
use Rattle.span_tables.specs.declared.leg_index.LegIndex.{LegIndex}
use Rattle.inter_credit.specs.near.Index.{AreBlocks, AreCovered}
use Rattle.inter_credit.proofs.BlockLemmas.{fold_block}
use Rattle.inter_credit.proofs.IndexLemmas.{next_block, no_block}
use Rattle.inter_credit.proofs.state.InterState.spread_all.Goals as goal

pub returns-clause-value : goal.returns-clause-value
returns-clause-value c =
    let none = no_block c.deref-block-items.result.now c.loop-block.block-index c.loop-block.left.now c.loop-block-test.false
    c.loop-block.invariant.blocks in
    sym (ap (fold inter_both_ways c.loop-block.self) none) ∙ c.loop-block.invariant.value

pub loop-block-init : goal.loop-block-init
loop-block-init c = record {
  value = refl;
  blocks = subst (λ (bs : List LegIndex). AreBlocks bs c.args.spreads.now) (sym c.deref-block-items.ensures.value) c.requires.index;
  in_range = c.requires.spreads;
  long = refl;
}

abbrev no_spreads : LegIndex
no_spreads = record { slots = [] }

pub spread_block-requires-clause-block : goal.spread_block-requires-clause-block
spread_block-requires-clause-block c =
    let left = c.loop-block.left.now in
    let blocks = c.deref-block-items.result.now in
    let front : c.split_at.result.0.now ≡ take BITS left =
    c.split_at.ensures.front ∙ ap (λ n. take n left) c.min.ensures ∙ take_min BITS left in
    let here = next_block blocks c.loop-block.block-index no_spreads left c.loop-block-test.true c.loop-block.invariant.blocks in
    subst (AreCovered (get_or blocks c.loop-block.block-index no_spreads)) (sym front) here.0

pub loop-block-preserved : goal.loop-block-preserved
loop-block-preserved c =
    let left = c.loop-block.left.now in
    let blocks = c.deref-block-items.result.now in
    let i = c.loop-block.block-index in
    let before = c.loop-block.invariant in
    let front = c.split_at.ensures.front ∙ ap (λ n. take n left) c.min.ensures in
    let back = c.split_at.ensures.back ∙ ap (λ n. drop n left) c.min.ensures in
    let here = next_block blocks i no_spreads left c.loop-block-test.true before.blocks in
    record {
      value = fold_block c.args.self.now c.loop-block.self c.spread_block.new.self c.args.spreads.now left c.split_at.result.0.now
          c.split_at.result.1.now BITS before.value front back c.spread_block.ensures.value;
      blocks = subst (AreBlocks (drop (i + 1) blocks)) (sym (back ∙ drop_min BITS left)) here.1;
      in_range = subst (λ (n : ℕ). All (IsInter n) c.split_at.result.1.now) (sym c.spread_block.ensures.length)
          (subst (All (IsInter (length c.loop-block.self))) (sym c.split_at.ensures.back)
          (All-drop (IsInter (length c.loop-block.self)) c.min.result left before.in_range));
      long = c.spread_block.ensures.length ∙ before.long;
    }
