use Rattle.std.proofs.Common.{◌∙◌, get_or, length, refl, subst, sym, ℕ}
use Rattle.std.specs.Prelude.{All}
use Rattle.span_tables.specs.Accepted.{IsInter}
use Rattle.span_tables.proofs.WordFolds.{all_formed, formed_more, formed_past, none_formed}
use Rattle.inter_credit.specs.Credits.{inter_both_ways}
use Rattle.inter_credit.specs.near.Index.{FormsNothing}
use Rattle.inter_credit.proofs.BlockLemmas.{still_nothing}
use Rattle.inter_credit.proofs.NothingFormed.{nothing_changes}
use Rattle.inter_credit.proofs.state.InterState.spread_block.Goals as goal

pub loop-number-init : goal.loop-number-init
loop-number-init c = record {
  formed = none_formed inter_both_ways FormsNothing nothing_changes c.args.spreads.now c.args.self.now c.may_form-left.result
      (λ k d lt none. c.may_form-left.ensures k (get_or c.args.spreads.now k d) (c.requires.block k d lt) none);
  long = refl;
}

pub returns-clause-value : goal.returns-clause-value
returns-clause-value c =
    all_formed inter_both_ways FormsNothing nothing_changes c.args.spreads.now c.args.self.now c.loop-number.self c.loop-number.left
    c.loop-number.invariant.formed c.in_default.ensures.none

pub loop-number-preserved : goal.loop-number-preserved
loop-number-preserved c = record {
  formed = formed_past inter_both_ways FormsNothing nothing_changes c.args.spreads.now c.args.self.now c.loop-number.self
      c.loop-number.left c.in-Some.number c.take_first.new.word c.loop-number.invariant.formed c.in-Some.ensures.first
      c.in_default-get.ensures.lookup.3;
  long = c.loop-number.invariant.long;
}

pub loop-number-preserved-in-Some-get : goal.loop-number-preserved-in-Some-get
loop-number-preserved-in-Some-get c =
    let read = c.in-Some-get.ensures.lookup in
    let before = c.loop-number.invariant in
    let states = c.loop-number.self in
    let spread = c.in-Some-get.spread.now in
    let inters : All (IsInter (length states)) c.args.spreads.now =
    subst (λ (n : ℕ). All (IsInter n) c.args.spreads.now) (sym before.long) c.requires.spreads in
    record {
      formed = formed_more inter_both_ways FormsNothing nothing_changes c.args.spreads.now c.args.self.now states c.loop-number.left
          c.in-Some.number c.take_first.new.word before.formed c.in-Some.ensures.first c.spread.new.self spread read.3.0 read.1
          c.spread.ensures.value
          (λ k x lt short. still_nothing states c.spread.new.self spread (get_or c.args.spreads.now k x)
          (subst (IsInter (length states)) (sym read.1) (inters c.in-Some.number spread read.3.0)) (inters k x short)
          c.spread.ensures.value);
      long = c.spread.ensures.length ∙ before.long;
    }
