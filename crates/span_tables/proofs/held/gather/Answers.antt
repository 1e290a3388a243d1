use Rattle.std.proofs.Common.{◌≡◌, ◌∙◌, true, false, sym, ap, subst, arith, List}
use Rattle.std.proofs.lemmas.Grind.{common_steps}
use Rattle.std.proofs.lemmas.Bool.Decides.{nat_tests}
use Rattle.std.proofs.lemmas.List.{append-nil}
use Rattle.span_tables.specs.Tables.{commodity_id}
use Rattle.span_tables.specs.Holdings.{AreHoldings}
use Rattle.span_tables.specs.Net.{held_contracts}
use Rattle.span_tables.specs.near.Gathered.{holdings_in}
use Rattle.span_tables.specs.declared.records.Contract.{Contract}
use Rattle.span_tables.proofs.GatherLemmas.{known_holding}
use Rattle.span_tables.proofs.HeldLemmas.{are_holdings, held_in}
use Rattle.span_tables.proofs.RunLemmas.{one_more}
use Rattle.span_tables.proofs.held.gather.Goals as goal
use Rattle.span_tables.proofs.held.gather.Goals.{then-commodity_of-commodity+in_ok-push, else-commodity_of-commodity}

pub loop-holding-preserved : goal.loop-holding-preserved
loop-holding-preserved c =
    let more = one_more c.args.tables.now c.known.ensures c.holdings-holding-items.result.now c.loop-holding.holding-index _ _
    c.loop-holding-test.true
    (known_holding _ _ _ _ _ c.holdings-holding-items.ensures.value c.loop-holding-test.true c.requires.fits)
    c.commodity_of.ensures.value c.args.commodity in
    elim c.if-commodity_of-commodity.branch [
      | then-commodity_of-commodity+in_ok-push w ↦ rw w.held-is
          (w.in_ok-push.ensures.items ∙ rw c.loop-holding.invariant
          (sym (more true c.requires.commodity (grind (arith, nat_tests, w.if-commodity_of-commodity.true)))))
      | else-commodity_of-commodity w ↦ rw w.held-is
          (c.loop-holding.invariant ∙ sym (append-nil _)
          ∙ sym (more false c.requires.commodity (grind (arith, nat_tests, w.if-commodity_of-commodity.false))))
    ]

pub new-requires : goal.new-requires
new-requires c =
    let items : c.loop-holding.held.items ≡ holdings_in c.args.tables.now.contracts c.args.portfolio.now.holdings
    (commodity_id c.args.tables.now c.args.commodity) = grind (arith, common_steps) in
    rw c.in_ok-share_contracts.ensures.value (subst (AreHoldings c.args.tables.now.contracts) (sym items)
    (are_holdings c.args.tables.now _ _ c.known.ensures c.holdings-holding-items.ensures.kept c.requires.fits))

pub returns : goal.returns
returns c =
    let items : c.loop-holding.held.items ≡ holdings_in c.args.tables.now.contracts c.args.portfolio.now.holdings
    (commodity_id c.args.tables.now c.args.commodity) = grind (arith, common_steps) in
    c.new.ensures ∙ ap (λ (xs : List Contract). held_contracts xs c.loop-holding.held.items) c.in_ok-share_contracts.ensures.value
    ∙ ap (held_contracts c.args.tables.now.contracts) items ∙ held_in c.args.tables.now.contracts c.args.portfolio.now.holdings _
