use Rattle.std.proofs.Common.{ap, ◌∙◌}
use Rattle.spread_stage.specs.Deltas.{month_deltas}
use Rattle.reasons.proofs.StageLemmas.{month_reasons_are}
use Rattle.reasons.proofs.stages.push_month_reasons.Goals as goal

pub returns : goal.returns
returns c = λ holdings is.
    month_reasons_are c.args.tables.now holdings c.args.commodity c.args.ids.now c.args.out.now.items _ _ _
    c.in_ok-months.months c.in_ok-tiers.tiers c.form_intras.new.tiers c.intras.result.now c.deref.result.now
    c.spots.result.now (c.in_ok-months.ensures ∙ ap month_deltas is) c.in_ok-tiers.ensures.value c.intras.ensures.value
    c.in_ok-intras.ensures.tiers (c.deref.ensures.value ∙ c.in_ok-intras.ensures.shown) c.spots.ensures.value
    c.in_ok-push_months.ensures c.in_ok-push_intras.ensures
    c.in_ok-push_spots.ensures
