use Rattle.std.proofs.Common.{rules, ◌≡◌, ◌∙◌, ◌∷◌, [], ◌++◌, Err, subst, sym}
use Rattle.session.specs.Accounts.{under_contracts}
use Rattle.session.specs.Refusals.{refused_by}
use Rattle.session.specs.near.Answering.{is_memory}
use Rattle.session.specs.near.Carried.{AreCarried}
use Rattle.session.specs.near.Kept.{AreOnce}
use Rattle.session.proofs.CarryLemmas.{all_carried, lost_first, one_carried, under_once}
use Rattle.session.proofs.accounts.Accounts.under_set.Goals as goal

pub returns-in_err-carried-clause-lost : goal.returns-in_err-carried-clause-lost
returns-in_err-carried-clause-lost c =
    let old = c.args.old.now.contracts in
    let new = c.args.new.now.contracts in
    let e = c.in_err-carried.field-0.0 in
    let is : c.from_residual-in_err-carried.result ≡ Err e = search rules in
    let steps : c.loop-portfolio.portfolio-iterator ≡ c.in-Some.portfolio.now ∷ c.next.new.self = search rules in
    rw (is) (lost_first old new c.args.self.now c.in-Some.portfolio.now c.next.new.self c.loop-portfolio.all.items
    (subst (λ left. AreCarried old new c.args.self.now left c.loop-portfolio.all.items) steps c.loop-portfolio.invariant)
    (is_memory e) (refused_by e) c.in_err-carried.ensures.lost)

pub loop-portfolio-preserved : goal.loop-portfolio-preserved
loop-portfolio-preserved c =
    let old = c.args.old.now.contracts in
    let new = c.args.new.now.contracts in
    let p = c.in-Some.portfolio.now in
    let steps : c.loop-portfolio.portfolio-iterator ≡ p ∷ c.next.new.self = search rules in
    let items : c.push.new.self.items ≡ c.loop-portfolio.all.items ++ under_contracts old new p ∷ [] = search rules in
    subst (AreCarried old new c.args.self.now c.next.new.self) (sym items)
    (one_carried old new c.args.self.now p c.next.new.self c.loop-portfolio.all.items
    (subst (λ left. AreCarried old new c.args.self.now left c.loop-portfolio.all.items) steps c.loop-portfolio.invariant)
    c.in_ok-carried.ensures.known)

pub new-requires-2 : goal.new-requires-2
new-requires-2 c =
    let old = c.args.old.now.contracts in
    let new = c.args.new.now.contracts in
    let done : c.loop-portfolio.portfolio-iterator ≡ [] = search rules in
    subst AreOnce (sym (c.new.ensures
    ∙ all_carried old new c.args.self.now c.loop-portfolio.all.items
    (subst (λ left. AreCarried old new c.args.self.now left c.loop-portfolio.all.items) done c.loop-portfolio.invariant)))
    (under_once old new c.args.self.now c.known.ensures)
