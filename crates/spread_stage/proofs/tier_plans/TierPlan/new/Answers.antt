use Rattle.std.proofs.Common.{◌∙◌, ◌∷◌, ◌++◌, [], ap, sym, subst, List, map, take}
use Rattle.std.specs.Prelude.{All}
use Rattle.std.proofs.lemmas.List.{map-append, take_more}
use Rattle.std.proofs.lemmas.List.Elements.{All-push}
use Rattle.span_tables.specs.declared.records.Intra.{Intra}
use Rattle.spread_stage.specs.near.TierPlans.{AreKnown, IsIndexed, intra_of}
use Rattle.spread_stage.specs.declared.tier_plans.TierLeg.{TierLeg}
use Rattle.spread_stage.specs.declared.tier_plans.TierSpread.{TierSpread}
use Rattle.spread_stage.proofs.TierPlanLemmas.{indexed_more}
use Rattle.spread_stage.proofs.tier_plans.TierPlan.new.Goals as goal

pub loop-intra-preserved : goal.loop-intra-preserved
loop-intra-preserved c =
    let i = c.loop-intra.intra-index in
    let made = c.loop-intra.spreads.items in
    let new = c.new-spread.result in
    let before = c.loop-intra.invariant in
    record {
      value = ap (λ (xs : List TierSpread). map intra_of xs) c.in_ok-push.ensures.items ∙ map-append intra_of made (new ∷ [])
          ∙ ap (λ (xs : List Intra). xs ++ intra_of new ∷ []) before.value
          ∙ ap (λ (x : Intra). take i c.args.intras.now ++ x ∷ []) (c.new-spread.ensures.value ∙ c.intra-item.is)
          ∙ sym (take_more c.args.intras.now i c.intra-item.result c.loop-intra-test.true);
      known = subst (λ (xs : List TierSpread). All (AreKnown c.args.tiers.now) xs) (sym c.in_ok-push.ensures.items)
          (All-push (AreKnown c.args.tiers.now) made new before.known c.new-spread.ensures.known);
      indexed = indexed_more c.loop-intra.index c.add_legs.new.index made new c.add_legs.ensures.kept
          (subst (λ n. IsIndexed c.add_legs.new.index n new.legs.items) (c.len.ensures ∙ c.loop-intra.spreads.ok.0)
          (subst (λ (xs : List TierLeg). IsIndexed c.add_legs.new.index c.len.result xs) c.deref.ensures.0 c.add_legs.ensures.added))
          _ before.indexed c.in_ok-push.ensures.items;
    }
