use Rattle.std.proofs.Common.{◌≡◌, ◌++◌, append_assoc, take, ap, ◌∙◌}
use Rattle.std.specs.Prelude.{fold}
use Rattle.span_tables.specs.declared.sides.Direction.TheVariants.{ALong, AShort}
use Rattle.spread_stage.specs.Spreads.{formed_both, spread_both_ways}
use Rattle.reasons.specs.Shown.{intra_in, intra_ways}
use Rattle.reasons.proofs.FormedLemmas.{fold_step, intras_shown_more}
use Rattle.reasons.proofs.months.form_intras.Goals as goal

pub loop-intra-preserved : goal.loop-intra-preserved
loop-intra-preserved c =
    let spreads = c.args.intras.now in
    let tiers = c.args.tiers.now in
    let i = c.loop-intra.intra-index in
    let s = c.intra-item.result in
    let f = c.spread_counted-formed.result in
    let before = c.loop-intra.invariant in
    let formed : f ≡ formed_both (fold spread_both_ways tiers (take i spreads)) s =
    c.spread_counted-formed.ensures.formed ∙ ap (λ t. formed_both t s) before.tiers in
    record {
      tiers = fold_step spread_both_ways tiers _ _ spreads i s c.loop-intra-test.true c.intra-item.is
          c.spread_counted-formed.ensures.value before.tiers;
      shown = c.in_ok-push_formed-2.ensures ∙ ap (λ xs. xs ++ intra_in s AShort f.a_short) c.in_ok-push_formed.ensures
          ∙ append_assoc _ (intra_in s ALong f.a_long) (intra_in s AShort f.a_short)
          ∙ (λ k. before.shown k ++ intra_ways s (formed k))
          ∙ intras_shown_more spreads i s tiers c.loop-intra-test.true c.intra-item.is;
      shrinks = λ months h. c.spread_counted-formed.ensures.shrinks months (before.shrinks months h);
    }
