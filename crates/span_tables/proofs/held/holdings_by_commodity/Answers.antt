use Rattle.std.proofs.Common.{◌∙◌, ◌<◌, arith, ap, length, replicate, sym, subst, take, List, []}
use Rattle.std.specs.Prelude.{All}
use Rattle.span_tables.specs.declared.portfolios.Holding.{Holding}
use Rattle.span_tables.specs.declared.records.Commodity.{Commodity}
use Rattle.span_tables.specs.near.Gathered.{commodity_held, holdings_in}
use Rattle.span_tables.proofs.GatherLemmas.{gather_more, known_holding}
use Rattle.span_tables.proofs.GroupLemmas.{copies_none, lengths}
use Rattle.span_tables.proofs.HeldLemmas.{all_known}
use Rattle.span_tables.proofs.held.holdings_by_commodity.Goals as goal

pub loop-holding-init : goal.loop-holding-init
loop-holding-init c =
    c.in_ok-lists.ensures ∙ ap (λ (cs : List Commodity). replicate (length cs) []) c.commodities.ensures.value
    ∙ copies_none (λ (d : Commodity). d.id) (commodity_held c.args.tables.now.contracts) c.args.tables.now.commodities

pub push_at-requires : goal.push_at-requires
push_at-requires c =
    let long = lengths (λ v. v.items) (λ d. holdings_in c.args.tables.now.contracts
    (take c.loop-holding.holding-index c.holdings-holding-items.result.now) d.id) c.loop-holding.lists.items c.args.tables.now.commodities
    c.loop-holding.invariant in
    let known = c.commodity_of.ensures.known
    (known_holding _ _ _ _ _ c.holdings-holding-items.ensures.value c.loop-holding-test.true c.requires) in
    omega (arith, long, known)

pub loop-holding-preserved : goal.loop-holding-preserved
loop-holding-preserved c =
    gather_more c.args.tables.now c.known.ensures c.holdings-holding-items.result.now c.loop-holding.holding-index _ _ _ _
    c.loop-holding-test.true
    (subst (λ (hs : List Holding). All (λ h. h.contract < length c.args.tables.now.contracts) hs)
    (sym c.holdings-holding-items.ensures.value)
    (all_known _ _ c.requires))
    c.commodity_of.ensures.value c.loop-holding.invariant c.in_ok-push_at.ensures.items
