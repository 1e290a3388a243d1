use Rattle.std.proofs.Common.{◌≡◌, ◌+◌, ◌<◌, ◌≤◌, ◌∙◌, List, ap, arith, get_or, length, subst, sym}
use Rattle.std.specs.Int.{bit_at}
use Rattle.spread_stage.specs.Months.{Shrinks}
use Rattle.std.proofs.lemmas.List.Folds.{fold-map}
use Rattle.span_tables.specs.Accepted.{IsIntra}
use Rattle.span_tables.specs.declared.sides.Direction.TheVariants.{ALong, AShort}
use Rattle.span_tables.proofs.LegIndexLemmas.{neither}
use Rattle.span_tables.proofs.WordFolds.{all_formed, formed_more, formed_past, none_formed}
use Rattle.spread_stage.specs.Spreads.{TierRests, spread_both_ways, unspread}
use Rattle.spread_stage.specs.near.TierPlans.{intra_of}
use Rattle.spread_stage.specs.near.TierSums.{IsClosed}
use Rattle.spread_stage.specs.declared.tier_plans.TierSpread.{TierSpread}
use Rattle.spread_stage.proofs.LeftOutLemmas.{IsLeftOut, all_closed, bit_zero, intra_at, left_out_changes, still_closed}
use Rattle.spread_stage.proofs.SizeLemmas.{shrinks_none}
use Rattle.spread_stage.proofs.tier_sums.form_spreads.Goals as goal

abbrev step : TierRests → TierSpread → TierRests
step t s = spread_both_ways t (intra_of s)

abbrev Out : TierRests → TierSpread → Type 0
Out t s = IsLeftOut t (intra_of s)

pub loop-number-init : goal.loop-number-init
loop-number-init c =
    let spreads = c.args.plan.now.spreads.items in
    let closed = all_closed c.args.tiers.now c.args.rests.now c.args.sums.now c.requires.sums c.args.sides.now
    c.requires.sides c.args.plan.now c.requires.plan c.requires.intras c.may_form-found.result c.may_form-found.ensures in
    record {
      formed = none_formed step Out (λ t s. left_out_changes t (intra_of s)) spreads (unspread c.args.rests.now) c.either-left.result
          (λ k e lt out d. closed k e d lt (neither c.may_form-found.result k (ap (λ w. bit_at w k) (sym c.either-left.ensures) ∙ out) d));
      rise = c.requires.rise;
      less = omega arith;
      shrinks = λ months h. h;
      sums = c.requires.sums;
      closed = closed;
    }

-- the spread that is formed is the one with the number
pub spread_open_ways-charge-requires-clause-intra : goal.spread_open_ways-charge-requires-clause-intra
spread_open_ways-charge-requires-clause-intra c =
    let spreads = c.args.plan.now.spreads.items in
    let read = c.in-Some-get.ensures.lookup in
    let number = c.in-Some.number in
    let spread = c.in-Some-get.spread.now in
    let at : spread ≡ get_or spreads number spread =
    read.1 ∙ ap (λ (xs : List TierSpread). get_or xs number spread) c.deref.ensures.value in
    let lt : number < length spreads = subst (λ (xs : List TierSpread). number < length xs) c.deref.ensures.value read.3.0 in
    subst (λ (x : TierSpread). IsIntra (intra_of x)) (sym at) (intra_at spreads c.requires.intras number spread lt)

pub spread_open_ways-charge-requires-clause-not_a_long : goal.spread_open_ways-charge-requires-clause-not_a_long
spread_open_ways-charge-requires-clause-not_a_long c none =
    let spreads = c.args.plan.now.spreads.items in
    let read = c.in-Some-get.ensures.lookup in
    let number = c.in-Some.number in
    let spread = c.in-Some-get.spread.now in
    let at : spread ≡ get_or spreads number spread =
    read.1 ∙ ap (λ (xs : List TierSpread). get_or xs number spread) c.deref.ensures.value in
    let lt : number < length spreads = subst (λ (xs : List TierSpread). number < length xs) c.deref.ensures.value read.3.0 in
    subst (λ (x : TierSpread). IsClosed ALong c.loop-number.rests (intra_of x)) (sym at)
    (c.loop-number.invariant.closed number spread ALong lt (bit_zero c.may_form-found.result.a_long number _ c.has-a_long.ensures none))

pub spread_open_ways-charge-requires-clause-not_a_short : goal.spread_open_ways-charge-requires-clause-not_a_short
spread_open_ways-charge-requires-clause-not_a_short c none =
    let spreads = c.args.plan.now.spreads.items in
    let read = c.in-Some-get.ensures.lookup in
    let number = c.in-Some.number in
    let spread = c.in-Some-get.spread.now in
    let at : spread ≡ get_or spreads number spread =
    read.1 ∙ ap (λ (xs : List TierSpread). get_or xs number spread) c.deref.ensures.value in
    let lt : number < length spreads = subst (λ (xs : List TierSpread). number < length xs) c.deref.ensures.value read.3.0 in
    subst (λ (x : TierSpread). IsClosed AShort c.loop-number.rests (intra_of x)) (sym at)
    (c.loop-number.invariant.closed number spread AShort lt (bit_zero c.may_form-found.result.a_short number _ c.has-a_short.ensures none))

pub loop-number-preserved-in-Some-get : goal.loop-number-preserved-in-Some-get
loop-number-preserved-in-Some-get c =
    let spreads = c.args.plan.now.spreads.items in
    let read = c.in-Some-get.ensures.lookup in
    let number = c.in-Some.number in
    let spread = c.in-Some-get.spread.now in
    let at : spread ≡ get_or spreads number spread =
    read.1 ∙ ap (λ (xs : List TierSpread). get_or xs number spread) c.deref.ensures.value in
    let lt : number < length spreads = subst (λ (xs : List TierSpread). number < length xs) c.deref.ensures.value read.3.0 in
    let before = c.loop-number.invariant in
    let formed = c.spread_open_ways-charge.ensures in
    let t : TierRests = record { rests = c.loop-number.rests; charge = c.loop-number.charge } in
    let after : TierRests = record {
      rests = c.spread_open_ways-charge.new.rests;
      charge = c.loop-number.charge + c.spread_open_ways-charge.result;
    } in
    let less : Shrinks t.rests after.rests = formed.shrinks t.rests (shrinks_none t.rests) in
    record {
      formed = formed_more step Out (λ u s. left_out_changes u (intra_of s)) spreads (unspread c.args.rests.now) t
          c.loop-number.left number c.take_first.new.word before.formed c.in-Some.ensures.first after spread lt at
          (formed.value c.loop-number.charge)
          (λ k x above short out d. still_closed d t.rests after.rests (intra_of (get_or spreads k x)) less (out d));
      rise = formed.rise;
      less = omega (arith, before.less, formed.less);
      shrinks = λ months h. formed.shrinks months (before.shrinks months h);
      sums = formed.sums;
      closed = λ k e d short out.
          still_closed d t.rests after.rests (intra_of (get_or spreads k e)) less (before.closed k e d short out);
    }

pub loop-number-preserved : goal.loop-number-preserved
loop-number-preserved c =
    let before = c.loop-number.invariant in
    let t : TierRests = record { rests = c.loop-number.rests; charge = c.loop-number.charge } in
    record {
      formed = formed_past step Out (λ u s. left_out_changes u (intra_of s)) c.args.plan.now.spreads.items (unspread c.args.rests.now) t
          c.loop-number.left c.in-Some.number c.take_first.new.word before.formed c.in-Some.ensures.first
          (subst (λ (xs : List TierSpread). length xs ≤ c.in-Some.number) c.deref.ensures.value c.in_default-get.ensures.lookup.3);
      rise = before.rise;
      less = before.less;
      shrinks = before.shrinks;
      sums = before.sums;
      closed = before.closed;
    }

pub returns-clause-value : goal.returns-clause-value
returns-clause-value c =
    let t : TierRests = record { rests = c.loop-number.rests; charge = c.loop-number.charge } in
    all_formed step Out (λ u s. left_out_changes u (intra_of s)) c.args.plan.now.spreads.items (unspread c.args.rests.now) t
    c.loop-number.left c.loop-number.invariant.formed c.in_default.ensures.none
    ∙ sym (fold-map spread_both_ways intra_of (unspread c.args.rests.now) c.args.plan.now.spreads.items)
