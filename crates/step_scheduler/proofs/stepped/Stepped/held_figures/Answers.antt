use Rattle.std.proofs.Common.{◌≡◌, ◌<◌, ◌≤◌, false, length, rules, true}
use Rattle.span_tables.specs.declared.limits.TheConstants.{MAX_COMMODITIES}
use Rattle.plan_ir.specs.Figures.{is_commodity_held}
use Rattle.step_scheduler.proofs.FilledLemmas.{none_filled, one_filled, one_over}
use Rattle.step_scheduler.proofs.stepped.Stepped.held_figures.Goals as goal
use Rattle.step_scheduler.proofs.stepped.Stepped.held_figures.Goals.{then-flags-commodity+in_ok-push, else-flags-commodity}

pub loop-commodity-init : goal.loop-commodity-init
loop-commodity-init c =
    let few : length (c.args.job.now).set.tables.commodities ≤ MAX_COMMODITIES = search rules in
    none_filled _ _ few _ c.in_ok-held.ensures.figures c.in_ok-held.ensures.places

pub loop-commodity-preserved : goal.loop-commodity-preserved
loop-commodity-preserved c =
    let few : length (c.args.job.now).set.tables.commodities ≤ MAX_COMMODITIES = search rules in
    let lt : c.loop-commodity.commodity < length (c.args.job.now).set.tables.commodities = search rules in
    elim c.if-flags-commodity.branch [
      | then-flags-commodity+in_ok-push w ↦
          let some : is_commodity_held (c.args.job.now).set.tables (c.args.job.now).portfolio.holdings c.loop-commodity.commodity ≡ true =
          search rules in
          rw w.held-is
          (one_filled _ _ few _ _ c.loop-commodity.invariant _ _ lt w.figures.ensures some w.in_ok-push.ensures.figures
          w.in_ok-push.ensures.places)
      | else-flags-commodity w ↦
          let free : is_commodity_held (c.args.job.now).set.tables (c.args.job.now).portfolio.holdings c.loop-commodity.commodity ≡ false =
          search rules in
          rw w.held-is (one_over _ _ few _ _ c.loop-commodity.invariant lt free)
    ]
