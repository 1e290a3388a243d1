use Rattle.std.proofs.Common.{◌≡◌, ◌∙◌, ◌++◌, Err, Ok, ap, length, subst, sym, true}
use Rattle.std.specs.Prelude.{⊤, MatchBool}
use Rattle.span_tables.specs.Holdings.{fits}
use Rattle.binding.specs.Binding.{is_memory as is_bind_memory}
use Rattle.binding.specs.OrderBinding.{TriedOrder}
use Rattle.binding.specs.Trades.{traded}
use Rattle.plan_compiler.specs.Compiled.{SetView}
use Rattle.whatif.specs.Whatif.{order_text}
use Rattle.session.specs.Answers.{Answered, if_fit, tried, tried_answer}
use Rattle.session.specs.near.InUse.{state_of}
use Rattle.session.proofs.AnswerLemmas.{among_fits, unfit_refused}
use Rattle.session.proofs.answers.push_try.Goals as goal

pub push_change-requires-clause-before : goal.push_change-requires-clause-before
push_change-requires-clause-before c =
    subst (λ (set : SetView). fits (length set.tables.contracts) c.holdings_of-held.result.now ≡ true) (sym c.in-Ok.ensures.same)
    (subst (λ hs. fits (length c.args.set.now.tables.contracts) hs ≡ true) (sym c.holdings_of-held.ensures.value)
    (among_fits (length c.args.set.now.tables.contracts) c.args.accounts.now c.args.account.now c.requires.fits))

pub returns-in_ok-push_change-in-Ok-clause-answer : goal.returns-in_ok-push_change-in-Ok-clause-answer
returns-in_ok-push_change-in-Ok-clause-answer c =
    let contracts = c.args.set.now.tables.contracts in
    let order = c.args.order.now in
    let account = c.args.account.now in
    let held = c.holdings_of-held.ensures.value in
    let s = state_of c.args.set.now c.args.accounts.now in
    let lines = c.in_ok-push_change-in-Ok.ensures.lines
    ∙ (λ i. c.requires.empty i ++ order_text (c.in-Ok.ensures.same i).tables (let o : TriedOrder = record {
      order = order;
      before = record { account = account; holdings = held i };
      after = c.in-Ok.after;
    } in o)) in
    ap (if_fit 2 (tried_answer s order account)) ((λ i. traded contracts (sym held i) account c.args.trades.now) ∙ c.in-Ok.ensures.after)
    ∙ (λ i. Ok (let a : Answered = record { lines = sym lines i; state = s } in a))

pub returns-in-Err-clause-answer : goal.returns-in-Err-clause-answer
returns-in-Err-clause-answer c =
    let s = state_of c.args.set.now c.args.accounts.now in
    let account = c.args.account.now in
    unfit_refused 2 (tried_answer s c.args.order.now account) (tried s account c.args.trades.now) c.in-Err.fault c.unfit.result
    (subst (λ hs. MatchBool (is_bind_memory c.in-Err.fault) ⊤
    (traded c.args.set.now.tables.contracts hs account c.args.trades.now ≡ Err c.in-Err.fault)) c.holdings_of-held.ensures.value
    c.in-Err.ensures.after)
    c.unfit.ensures
