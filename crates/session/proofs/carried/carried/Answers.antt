use Rattle.std.proofs.Common.{rules, ◌≡◌, ◌∙◌, ◌∷◌, [], ◌++◌, None, get_or, refl, subst, sym}
use Rattle.std.specs.Prelude.{pos}
use Rattle.span_tables.specs.Holdings.{ArePortfolio}
use Rattle.span_tables.specs.Net.{AccountHoldings}
use Rattle.span_tables.specs.declared.portfolios.Holding.{Holding}
use Rattle.span_tables.proofs.HeldLemmas.{all_known}
use Rattle.span_tables.proofs.StableSort.{sorted_by_closure}
use Rattle.session.proofs.CarriedLemmas.{carried_holds}
use Rattle.session.proofs.CarryLemmas.{all_moved, if_lost, next_moved, number_read}
use Rattle.session.proofs.carried.carried.Goals as goal

pub returns-in_default-clause-lost : goal.returns-in_default-clause-lost
returns-in_default-clause-lost c =
    let old = c.args.old.now.contracts in
    let new = c.args.new.now.contracts in
    let p = c.args.portfolio.now in
    let i = c.loop-holding.holding-index in
    let d : Holding = record { contract = 0; net = pos 0 } in
    let items = c.holdings-holding-items.ensures.value in
    let lt = rw items at c.loop-holding-test.true in
    let none = rw (items, c.requires.numbers) at c.in_default.not-Some in
    let read = number_read old new (get_or p.holdings i d) None (all_known _ _ c.requires.fits i d lt) in
    if_lost old new p i d _ lt c.loop-holding.invariant (λ n is. none n (read ∙ is)) c.lost.result
    (c.lost.ensures ∙ rw items refl)

pub loop-holding-preserved : goal.loop-holding-preserved
loop-holding-preserved c =
    let old = c.args.old.now.contracts in
    let new = c.args.new.now.contracts in
    let p = c.args.portfolio.now in
    let i = c.loop-holding.holding-index in
    let d : Holding = record { contract = 0; net = pos 0 } in
    let items = c.holdings-holding-items.ensures.value in
    let lt = rw items at c.loop-holding-test.true in
    let is = rw (items, c.requires.numbers) at c.in-Some.is in
    let read = number_read old new (get_or p.holdings i d) None (all_known _ _ c.requires.fits i d lt) in
    let pushed : c.push.new.self.items ≡ c.loop-holding.moved.items ++ record {
      contract = c.in-Some.contract;
      net = (get_or c.holdings-holding-items.result.now i d).net;
    } ∷ [] = search rules in
    rw (pushed, items) (next_moved old new p i d _ lt c.loop-holding.invariant c.in-Some.contract (sym read ∙ is))

pub new-requires : goal.new-requires
new-requires c =
    let old = c.args.old.now.contracts in
    let new = c.args.new.now.contracts in
    let p = c.args.portfolio.now in
    let apart = c.known.ensures.contracts_apart in
    let new_apart = c.known-2.ensures.contracts_apart in
    let all = rw c.holdings-holding-items.ensures.value at c.loop-holding-test.false in
    let sorted = sorted_by_closure (λ (h : Holding). h.contract) c.loop-holding.moved.items c.sort_by_key.new.self.items
    c.in_ok-sort_by_key.ensures.sorted c.in_ok-sort_by_key.ensures.stable (λ a r q k. search rules) in
    subst ArePortfolio (sym (sorted ∙ all_moved old new apart new_apart p _ _ c.loop-holding.invariant all c.requires.fits
    c.holdings.ensures.kept))
    (carried_holds old new apart new_apart p.account p.holdings c.requires.fits c.holdings.ensures.kept)

pub returns-clause-carried : goal.returns-clause-carried
returns-clause-carried c =
    let old = c.args.old.now.contracts in
    let new = c.args.new.now.contracts in
    let p = c.args.portfolio.now in
    let apart = c.known.ensures.contracts_apart in
    let new_apart = c.known-2.ensures.contracts_apart in
    let all = rw c.holdings-holding-items.ensures.value at c.loop-holding-test.false in
    let sorted = sorted_by_closure (λ (h : Holding). h.contract) c.loop-holding.moved.items c.sort_by_key.new.self.items
    c.in_ok-sort_by_key.ensures.sorted c.in_ok-sort_by_key.ensures.stable (λ a r q k. search rules) in
    let name = c.copied.ensures ∙ c.account.ensures in
    let held = sorted ∙ all_moved old new apart new_apart p _ _ c.loop-holding.invariant all c.requires.fits c.holdings.ensures.kept in
    c.new.ensures ∙ (λ i. (let it : AccountHoldings = record { account = name i; holdings = held i } in it))
