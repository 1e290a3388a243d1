use Rattle.std.proofs.Common.{◌≡◌, ◌∙◌, ◌++◌, Err, Ok, ap, subst, sym}
use Rattle.std.specs.Prelude.{⊤, MatchBool}
use Rattle.binding.specs.Binding.{is_memory as is_bind_memory}
use Rattle.binding.specs.Trades.{traded}
use Rattle.session.specs.Accounts.{with_account}
use Rattle.session.specs.Answers.{Answered, filled_answer, if_fit, total_text, tried}
use Rattle.session.specs.Refusals.{refused_by}
use Rattle.session.specs.near.Answering.{is_memory}
use Rattle.session.specs.near.InUse.{state_of}
use Rattle.session.proofs.AnswerLemmas.{fill_placed, no_place_refused, unfit_refused}
use Rattle.session.proofs.answers.push_fill.Goals as goal

pub returns-then-has_no_place-clause-answer : goal.returns-then-has_no_place-clause-answer
returns-then-has_no_place-clause-answer c =
    no_place_refused (state_of c.args.set.now c.args.accounts.now) c.args.account.now c.args.trades.now
    (sym (c.has_no_place.ensures c.args.set.now) ∙ c.if-has_no_place.true)

pub returns-in_ok-push_total-in-Ok-clause-answer : goal.returns-in_ok-push_total-in-Ok-clause-answer
returns-in_ok-push_total-in-Ok-clause-answer c =
    let s = state_of c.args.set.now c.args.accounts.now in
    let account = c.args.account.now in
    let lines = c.in_ok-push_total-in-Ok.ensures.line
    ∙ (λ i. c.requires.empty i ++ total_text (c.in-Ok.ensures.same i).tables c.in-Ok.after) in
    fill_placed s account c.args.trades.now (sym (c.has_no_place.ensures c.args.set.now) ∙ c.if-has_no_place.false)
    ∙ ap (if_fit 1 (filled_answer s))
    ((λ i. traded c.args.set.now.tables.contracts (sym c.holdings_of-held.ensures.value i) account c.args.trades.now)
    ∙ c.in-Ok.ensures.after)
    ∙ (λ i. Ok (let a : Answered = record {
      lines = sym lines i;
      state = record { tables = c.args.set.now.tables; accounts = with_account c.args.accounts.now c.in-Ok.after };
    } in a))

pub returns-in-Err-clause-answer : goal.returns-in-Err-clause-answer
returns-in-Err-clause-answer c =
    let s = state_of c.args.set.now c.args.accounts.now in
    let account = c.args.account.now in
    let trades = c.args.trades.now in
    subst (λ answer. MatchBool (is_memory c.unfit.result) ⊤ (answer ≡ Err (refused_by c.unfit.result)))
    (sym (fill_placed s account trades (sym (c.has_no_place.ensures c.args.set.now) ∙ c.if-has_no_place.false)))
    (unfit_refused 1 (filled_answer s) (tried s account trades) c.in-Err.fault c.unfit.result
    (subst (λ hs. MatchBool (is_bind_memory c.in-Err.fault) ⊤
    (traded c.args.set.now.tables.contracts hs account trades ≡ Err c.in-Err.fault)) c.holdings_of-held.ensures.value
    c.in-Err.ensures.after)
    c.unfit.ensures)
