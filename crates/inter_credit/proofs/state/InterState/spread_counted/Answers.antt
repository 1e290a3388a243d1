use Rattle.std.proofs.Common.{◌≡◌, ◌∙◌, List, ap, length, rules, subst, sym}
use Rattle.std.specs.Vec.{with_items}
use Rattle.std.proofs.lemmas.List.{with_items_is}
use Rattle.span_tables.specs.Accepted.{IsInter}
use Rattle.inter_credit.specs.Credits.{inter_both_ways}
use Rattle.inter_credit.specs.near.Open.{AreStates}
use Rattle.inter_credit.specs.declared.commodity_state.CommodityState.{CommodityState}
use Rattle.inter_credit.proofs.LoadedLemmas.{spread_loaded}
use Rattle.inter_credit.proofs.OpenLemmas.{spread_open}
use Rattle.inter_credit.proofs.state.InterState.spread_counted.Goals as goal

pub invariant_of-self : goal.invariant_of-self
invariant_of-self c =
    let old = c.self.inside.commodities in
    let states = c.form_both_ways.new.states in
    let items : (with_items old states).items ≡ states = with_items_is old states (search rules) in
    let inter : IsInter (length old.items) c.args.spread.now =
    subst (λ (ss : List CommodityState). IsInter (length ss) c.args.spread.now) (sym c.self.view_is) c.requires in
    let is : states ≡ inter_both_ways old.items c.args.spread.now = c.form_both_ways.ensures.value
    ∙ ap (λ (ss : List CommodityState). inter_both_ways ss c.args.spread.now) c.deref_mut.ensures.value in
    subst (λ (ss : List CommodityState). AreStates ss c.self.inside.sides c.self.inside.loaded) (sym items)
    (record {
      in_range = c.form_both_ways.ensures.states;
      open_sides = spread_open c.self.inside.sides old.items states c.args.spread.now inter is c.self.invariant.open_sides;
      are_loaded = spread_loaded c.self.inside.loaded old.items states c.args.spread.now inter is c.self.invariant.are_loaded;
    })
