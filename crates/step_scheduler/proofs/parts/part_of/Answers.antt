use Rattle.std.proofs.Common.{◌≡◌, ap, ◌∙◌, get_or, List, subst, sym}
use Rattle.std.specs.Prelude.{All, pos}
use Rattle.std.proofs.lemmas.List.{get_or_default}
use Rattle.span_tables.specs.Accepted.{IsIntra}
use Rattle.span_tables.specs.declared.records.Intra.{Intra}
use Rattle.scan_risk.specs.Scenarios.{scan_of, scenario_sums}
use Rattle.spread_stage.specs.Charges.{delivery_charge}
use Rattle.spread_stage.specs.Deltas.{month_deltas, net_delta}
use Rattle.spread_stage.specs.Spreads.{after_spreads}
use Rattle.spread_stage.specs.near.SetPlans.{IsByTiers}
use Rattle.spread_stage.specs.near.SpotIndex.{AreSpots}
use Rattle.inter_credit.specs.OptionValue.{net_value_of}
use Rattle.inter_credit.specs.Requirement.{minimum_of}
use Rattle.plan_ir.specs.Figures.{commodity_at, deltas_at, no_commodity, tiers_at}
use Rattle.step_scheduler.proofs.parts.part_of.Goals as goal

pub run-requires-clause-plan : goal.run-requires-clause-plan
run-requires-clause-plan c =
    subst (λ ts. IsByTiers ts c.args.plan.now) (sym c.tiers_of.ensures.value) c.requires.plan.by_tiers

pub run-requires-clause-intras : goal.run-requires-clause-intras
run-requires-clause-intras c = subst (All IsIntra) (sym c.requires.plan.spreads) (c.known.ensures.intras_in_range _)

pub returns-clause-part : goal.returns-clause-part
returns-clause-part c = λ holdings is.
    let t = c.args.tables.now in
    let i = c.args.commodity in
    let commodity = c.index-commodities-commodity.result in
    let months : c.refill.new.self ≡ deltas_at t holdings i = c.in_ok-refill.ensures.ok ∙ ap month_deltas is in
    let tiers : c.run.new.self ≡ tiers_at t holdings i =
    c.in_ok-run.ensures.value ∙ ap (λ (ss : List Intra). after_spreads ss c.refill.new.self) c.requires.plan.spreads
    ∙ ap (after_spreads _) months in
    let commodity_is : commodity ≡ commodity_at t i =
    c.index-commodities-commodity.is ∙ ap (λ cs. get_or cs i commodity) c.commodities.ensures.value
    ∙ get_or_default t.commodities i commodity no_commodity c.requires.commodity in
    record {
      scan = c.scan-scan.ensures.value ∙ ap scan_of (c.sums-sums.ensures.value ∙ ap scenario_sums is);
      net = c.net.ensures.value ∙ ap net_delta months;
      charge = c.charge.ensures.value ∙ ap (λ x. x.charge) tiers;
      delivery = c.delivery-delivery.ensures.value
          ∙ (λ k. pos (delivery_charge (months k) (tiers k).rests (c.spots.ensures.value k)));
      minimum = c.minimum-minimum.ensures.value ∙ (λ k. pos (minimum_of (commodity_is k).minimum_rate (commodity_is k).method (is k)));
      worth = λ has. c.worth_of.ensures has ∙ ap net_value_of is;
    }

pub delivery-delivery-requires-clause-plan : goal.delivery-delivery-requires-clause-plan
delivery-delivery-requires-clause-plan c = subst (AreSpots c.args.plan.now.spots) (sym c.spots.ensures.value) c.requires.plan.months
