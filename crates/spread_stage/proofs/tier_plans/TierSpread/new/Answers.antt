use Rattle.std.proofs.Common.{◌≡◌, ◌<◌, sym, subst, ◌∙◌, ap, arith, get_or, length, List}
use Rattle.std.specs.Prelude.{All, true}
use Rattle.std.specs.List.{list_any}
use Rattle.span_tables.specs.Tables.{has_months}
use Rattle.span_tables.specs.declared.legs.MonthLeg.{MonthLeg}
use Rattle.spread_stage.specs.near.TierPlans.{no_tier}
use Rattle.spread_stage.proofs.TierPlanLemmas.{found, leg_known, legs_more}
use Rattle.spread_stage.proofs.tier_plans.TierSpread.new.Goals as goal

pub overflow_cast-number_of : goal.overflow_cast-number_of
overflow_cast-number_of c =
    let known = subst (All (λ leg. list_any (has_months leg) c.args.tiers.now ≡ true)) (sym c.legs-leg-items.ensures) c.requires.known in
    let some : list_any (has_months c.leg-item.result) c.args.tiers.now ≡ true =
    rw c.leg-item.is (known c.loop-leg.leg-index c.leg-item.result c.loop-leg-test.true) in
    let within = (found (has_months c.leg-item.result) c.args.tiers.now no_tier some).0 in
    omega (arith, within, c.number_of.ensures, c.requires.few)

pub loop-leg-preserved : goal.loop-leg-preserved
loop-leg-preserved c =
    let legs = c.args.intra.now.legs in
    let lt : c.loop-leg.leg-index < length legs = omega (arith, ap length c.legs-leg-items.ensures, c.loop-leg-test.true) in
    let at : c.leg-item.result ≡ get_or legs c.loop-leg.leg-index c.leg-item.result =
    c.leg-item.is ∙ ap (λ (xs : List MonthLeg). get_or xs c.loop-leg.leg-index c.leg-item.result) c.legs-leg-items.ensures in
    let some : list_any (has_months c.leg-item.result) c.args.tiers.now ≡ true =
    rw at (c.requires.known c.loop-leg.leg-index c.leg-item.result lt) in
    let more = legs_more c.args.tiers.now legs _ _ c.loop-leg.leg-index _ lt at
    (leg_known c.args.tiers.now c.leg-item.result _ some c.number_of.ensures) c.loop-leg.invariant.value c.loop-leg.invariant.known
    c.push.ensures.items in
    record { value = more.0; known = more.1 }
