use Rattle.std.proofs.Common.{◌≡◌, ◌*◌, ◌-◌, sym, ap, ◌∙◌, subst, arith, List}
use Rattle.span_tables.specs.Sides.{market_side}
use Rattle.spread_stage.specs.Months.{MonthsRise, total_size}
use Rattle.spread_stage.specs.Spreads.{rests_after_leg}
use Rattle.spread_stage.specs.near.TierPlans.{IsKnown}
use Rattle.spread_stage.specs.near.TierSums.{IsChanged, sum_of}
use Rattle.spread_stage.specs.declared.months.MonthUnits.{MonthUnits}
use Rattle.spread_stage.proofs.SpreadLemmas.{leg_less, leg_rise}
use Rattle.spread_stage.proofs.TierFormLemmas.{used_more}
use Rattle.spread_stage.proofs.TierSumLemmas.{sums_after}
use Rattle.spread_stage.proofs.tier_sums.use_legs.Goals as goal

pub loop-leg-preserved : goal.loop-leg-preserved
loop-leg-preserved c =
    let d = c.args.direction in
    let leg = c.leg-item.result in
    let side = market_side d leg.months.side in
    let needed = c.args.formed * leg.months.ratio in
    let used : c.use_leg.new.rests ≡ rests_after_leg side needed c.loop-leg.rests leg.months =
    c.use_leg.ensures
    ∙ ap (λ on. rests_after_leg on (c.args.formed * c.from.result) c.loop-leg.rests leg.months) c.market_side-on.ensures
    ∙ ap (λ r. rests_after_leg side (c.args.formed * r) c.loop-leg.rests leg.months) (c.from.ensures ∙ c.get.ensures) in
    record {
      value = used ∙ ap (λ (rs : List MonthUnits). rests_after_leg side needed rs leg.months) c.loop-leg.invariant.value
          ∙ sym (used_more d c.args.formed c.args.rests.now c.args.legs.now c.loop-leg.leg-index leg (omega arith) c.leg-item.is);
      rise = subst MonthsRise (sym used) (leg_rise side needed c.loop-leg.rests leg.months c.loop-leg.invariant.rise);
      small = omega (
        arith,
        ap total_size used,
        c.loop-leg.invariant.small,
        leg_less side needed c.loop-leg.rests leg.months,
      );
      sums = sums_after c.args.tiers.now c.loop-leg.rests c.market_side-on.result leg (c.args.formed * c.from.result) c.loop-leg.sums
          c.lower.new.self c.loop-leg.invariant.rise c.requires.tiers
          (subst (IsKnown c.args.tiers.now) (sym c.leg-item.is) (c.requires.known c.loop-leg.leg-index leg (omega arith)))
          c.loop-leg.invariant.sums
          (subst (λ n. IsChanged c.market_side-on.result n
          (sum_of c.loop-leg.sums c.market_side-on.result n - c.args.formed * c.from.result)
          c.loop-leg.sums c.lower.new.self) c.from-tier.ensures c.lower.ensures.sums) c.lower.ensures.spans _ c.use_leg.ensures;
    }
