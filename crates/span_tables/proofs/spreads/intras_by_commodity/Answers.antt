use Rattle.std.proofs.Common.{◌<◌, List, [], length, ap, ◌∙◌, arith, rules}
use Rattle.span_tables.specs.Accepted.{commodity_number}
use Rattle.span_tables.specs.Tables.{intra_spread}
use Rattle.span_tables.specs.declared.records.IntraRecord.{IntraRecord}
use Rattle.span_tables.specs.declared.records.Tier.{Tier}
use Rattle.span_tables.proofs.GroupLemmas.{groups_more, groups_none, lengths, number_within}
use Rattle.span_tables.proofs.MonthLemmas.{tiers_found}
use Rattle.span_tables.proofs.spreads.intras_by_commodity.Goals as goal

pub loop-spread-init : goal.loop-spread-init
loop-spread-init c =
    let none = λ (tiers : List Tier). c.in_ok-lists.ensures
    ∙ groups_none (λ d. d.id) (λ x. x.commodity) (intra_spread tiers) c.args.commodities.now in
    record { every = lengths _ _ _ _ (none []); lists_are = λ tiers are. none tiers }

pub bounds-tier_lists-place : goal.bounds-tier_lists-place
bounds-tier_lists-place c =
    let within : c.number_near-place.result < length c.args.commodities.now =
    number_within (λ d. d.id) (λ x. x.commodity) c.args.commodities.now c.args.spreads.now _ _ _ c.requires.known
    c.loop-spread-test.true c.spread-item.is c.number_near-place.ensures in
    omega (arith, within, c.requires.every)

pub offset_bounds-tier_lists-place : goal.offset_bounds-tier_lists-place
offset_bounds-tier_lists-place c =
    let within : c.number_near-place.result < length c.args.commodities.now =
    number_within (λ d. d.id) (λ x. x.commodity) c.args.commodities.now c.args.spreads.now _ _ _ c.requires.known
    c.loop-spread-test.true c.spread-item.is c.number_near-place.ensures in
    let there : c.number_near-place.result < length c.args.tier_lists.now = omega (arith, within, c.requires.every) in
    search rules

pub push_at-requires : goal.push_at-requires
push_at-requires c =
    let within : c.number_near-place.result < length c.args.commodities.now =
    number_within (λ d. d.id) (λ x. x.commodity) c.args.commodities.now c.args.spreads.now _ _ _ c.requires.known
    c.loop-spread-test.true c.spread-item.is c.number_near-place.ensures in
    omega (arith, within, c.loop-spread.invariant.every)

pub loop-spread-preserved : goal.loop-spread-preserved
loop-spread-preserved c =
    let cs = c.args.commodities.now in
    let within : c.number_near-place.result < length c.args.commodities.now =
    number_within (λ d. d.id) (λ x. x.commodity) c.args.commodities.now c.args.spreads.now _ _ _ c.requires.known
    c.loop-spread-test.true c.spread-item.is c.number_near-place.ensures in
    let there : c.number_near-place.result < length c.args.tier_lists.now = omega (arith, within, c.requires.every) in
    record {
      every = omega (arith, c.in_ok-push_at.ensures.len, c.loop-spread.invariant.every);
      lists_are = λ tiers are.
          let found = tiers_found _ cs tiers _ _ _ c.spread-item.result are c.number_near-place.ensures there c.index-tier_lists-place.is in
          let made = c.intra_of-intra.ensures ∙ ap (λ ts. intra_spread ts c.spread-item.result) c.deref.ensures.value ∙ found
          ∙ ap (intra_spread tiers) c.spread-item.is in
          groups_more (λ d. d.id) (λ x. x.commodity)
          (intra_spread tiers) cs c.args.spreads.now c.loop-spread.spread-index c.spread-item.result _ _ c.number_near-place.result
          c.intra_of-intra.result c.requires.apart c.loop-spread-test.true c.requires.known (c.loop-spread.invariant.lists_are tiers are)
          (c.number_near-place.ensures ∙ ap (λ (s : IntraRecord). commodity_number cs s.commodity) c.spread-item.is) made
          c.in_ok-push_at.ensures.items;
    }
