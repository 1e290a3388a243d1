use Rattle.std.proofs.Common.{◌≡◌, Err, rules}
use Rattle.statement.proofs.RollLemmas.{next_is_last, under_refuses, under_stands}
use Rattle.statement.proofs.roll.roll_on_shelf.Goals as goal

pub returns-in_err-text-clause-fault : goal.returns-in_err-text-clause-fault
returns-in_err-text-clause-fault g c =
    let is : c.from_residual.result ≡ Err c.in_err-text.field-0.0 = search rules in
    rw (is) (c.in_err-text.ensures.fault c.args.today.positions)

pub returns-in_err-second_statement-clause-fault : goal.returns-in_err-second_statement-clause-fault
returns-in_err-second_statement-clause-fault g c =
    let is : c.from_residual-in_err-second_statement.result ≡ Err c.in_err-second_statement.field-0.0 = search rules in
    let two = rw c.requires.first at c.in_ok-text.ensures.told in
    rw (is) (under_refuses c.args.next.now c.args.today.positions _ _
    (next_is_last c.args.next.now _ _ _ two c.in_ok-second.ensures.set) c.in_err-second_statement.ensures.fault)

pub returns-clause-text : goal.returns-clause-text
returns-clause-text g c =
    let two = rw c.requires.first at c.in_ok-text.ensures.told in
    rw (← c.in_ok-text.ensures.text) (under_stands c.args.next.now c.args.today.positions _ _ _
    (next_is_last c.args.next.now _ _ _ two c.in_ok-second.ensures.set) c.in_ok-second_statement.ensures.text)
