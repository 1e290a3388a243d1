use Rattle.std.proofs.Common.{◌*◌, ap, ◌∙◌, sym, arith, List}
use Rattle.std.proofs.lemmas.List.Sums.{fold_more}
use Rattle.span_tables.specs.Sides.{market_side}
use Rattle.span_tables.specs.declared.legs.MonthLeg.{MonthLeg}
use Rattle.spread_stage.specs.Spreads.{rests_after_leg}
use Rattle.spread_stage.specs.declared.months.MonthUnits.{MonthUnits}
use Rattle.spread_stage.proofs.SpreadLemmas.{leg_rise, leg_less}
use Rattle.spread_stage.proofs.tiers.use_legs.Goals as goal

pub loop-leg-preserved : goal.loop-leg-preserved
loop-leg-preserved c =
    let rests = c.loop-leg.rests in
    let leg = c.leg-item.result in
    let now = rw (c.market_side.ensures, c.from.ensures, c.get.ensures) at c.use_leg.ensures in
    let after : List MonthUnits → MonthLeg → List MonthUnits =
    λ rs x. rests_after_leg (market_side c.args.direction x.side) (c.args.formed * x.ratio) rs x in
    let more = fold_more after c.args.rests.now c.args.legs.now c.loop-leg.leg-index leg (omega arith) in
    let less = leg_less (market_side c.args.direction leg.side) (c.args.formed * leg.ratio) rests leg in
    record {
      value = now ∙ ap (λ (rs : List MonthUnits). after rs leg) c.loop-leg.invariant.value ∙ ap (after _) c.leg-item.is ∙ sym more;
      rise = rw now (leg_rise (market_side c.args.direction leg.side) (c.args.formed * leg.ratio) rests leg c.loop-leg.invariant.rise);
      small = rw now (omega (arith, less, c.loop-leg.invariant.small));
    }
