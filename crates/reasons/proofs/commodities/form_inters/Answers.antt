use Rattle.std.proofs.Common.{[], ◌∷◌, ◌++◌, take, ap, ◌∙◌}
use Rattle.inter_credit.specs.Credits.{inter_formed_both, inter_both_ways}
use Rattle.reasons.specs.near.Stages.{inters_formed}
use Rattle.reasons.proofs.FormedLemmas.{fold_step, inters_formed_more}
use Rattle.reasons.proofs.commodities.form_inters.Goals as goal

pub loop-inter-preserved : goal.loop-inter-preserved
loop-inter-preserved c =
    let spreads = c.args.inters.now in
    let states = c.args.state.now in
    let before = c.loop-inter.invariant in
    record {
      states = fold_step inter_both_ways states _ _ spreads _ _ c.loop-inter-test.true c.inter-item.is c.spread_counted.ensures.value
          before.states;
      formed = c.in_ok-push.ensures.items ∙ ap (λ fs. fs ++ c.spread_counted.result ∷ []) before.formed
          ∙ ap (λ f. inters_formed (take c.loop-inter.inter-index spreads) states ++ f ∷ [])
          (c.spread_counted.ensures.formed ∙ ap (λ ls. inter_formed_both ls c.inter-item.result) before.states)
          ∙ inters_formed_more spreads _ _ states c.loop-inter-test.true c.inter-item.is;
      long = c.spread_counted.ensures.length ∙ before.long;
    }
