use Rattle.std.proofs.Common.{◌≡◌, Err, Some, None, map, rules}
use Rattle.span_cli.specs.Serving.{asked_by}
use Rattle.span_cli.specs.Words.{asked_in}
use Rattle.span_cli.proofs.WordsLaws.{form_mistake, no_mistake, taken_fails, value_mistake}
use Rattle.span_cli.proofs.words.request.Goals as goal

pub returns-in_err-matches-clause-err : goal.returns-in_err-matches-clause-err
returns-in_err-matches-clause-err g c =
    let words = map g.S.AsStr.text c.args.words.now in
    let e = c.in_err-matches.field-0.0 in
    let is : c.from_residual.result ≡ Err e = search rules in
    rw (is) (taken_fails words e (form_mistake words e c.in_err-matches.ensures.kinds))

pub returns-in_err-matches-clause-kinds : goal.returns-in_err-matches-clause-kinds
returns-in_err-matches-clause-kinds g c =
    let is : c.from_residual.result ≡ Err c.in_err-matches.field-0.0 = search rules in
    rw (is) (form_mistake _ c.in_err-matches.field-0.0 c.in_err-matches.ensures.kinds)

pub returns-in-Some-clause-kinds : goal.returns-in-Some-clause-kinds
returns-in-Some-clause-kinds g c =
    let words = map g.S.AsStr.text c.args.words.now in
    let asked : asked_in words ≡ Some (asked_by c.in-Some.request) = search rules in
    no_mistake words (asked_by c.in-Some.request) c.in_ok-matches.ensures.kinds asked

pub returns-clause-err : goal.returns-clause-err
returns-clause-err g c =
    let words = map g.S.AsStr.text c.args.words.now in
    let e = c.refuse_account.result in
    let asked : asked_in words ≡ None = search rules in
    taken_fails words e (value_mistake words e c.in_ok-matches.ensures.kinds asked c.refuse_account.ensures)

pub returns-clause-kinds : goal.returns-clause-kinds
returns-clause-kinds g c =
    let words = map g.S.AsStr.text c.args.words.now in
    let asked : asked_in words ≡ None = search rules in
    value_mistake words c.refuse_account.result c.in_ok-matches.ensures.kinds asked c.refuse_account.ensures
