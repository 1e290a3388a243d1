use Rattle.std.proofs.lemmas.Result.{err_from_is_err_and}
use Rattle.span_csv.specs.OrderFaults.{is_memory}
use Rattle.span_csv.specs.near.OrderReading.{numbered_orders}
use Rattle.span_csv.proofs.OrderSteps.{each_now, next_read, next_refused, next_second, numbered_under, orders_now, place_known}
use Rattle.span_csv.proofs.RecordLemmas.{told_by}
use Rattle.span_csv.proofs.orders.next_order.Goals as goal

pub returns-in_err-position-clause-found : goal.returns-in_err-position-clause-found
returns-in_err-position-clause-found c =
    let p = err_from_is_err_and c.from_residual.result c.from_residual.ensures.1 in
    let keys = c.args.orders.now.keys in
    let accounts = c.args.accounts.now.items in
    rw (p.1, p.2)
    (next_refused (numbered_orders keys accounts c.args.earlier.now) c.args.row.now c.in_err-position.field-0.0
    (rw (numbered_under keys accounts c.args.earlier.now) c.in_err-position.ensures.found))

pub returns-in_err-take_account-clause-found : goal.returns-in_err-take_account-clause-found
returns-in_err-take_account-clause-found c =
    let p = err_from_is_err_and c.from_residual-in_err-take_account.result c.from_residual-in_err-take_account.ensures.1 in
    let e = c.in_err-take_account.field-0.0 in
    let second = next_second c.args.orders.now.keys c.next_position.new.known.keys c.args.accounts.now.items c.args.earlier.now
    c.in_ok-position.position c.args.row.now c.requires.numbered c.requires.each c.in_ok-position.ensures.numbered
    c.in_ok-position.ensures.named c.in_ok-position.ensures.found in
    rw (p.1, p.2)
    (told_by (is_memory e) (rw c.field.ensures at c.in_err-take_account.ensures.same) (λ h. rw (h.0) (second h.1)))

pub returns-clause-found : goal.returns-clause-found
returns-clause-found c =
    rw (c.in_ok-take_account.ensures.taken, c.field.ensures)
    (next_read c.args.orders.now.keys c.next_position.new.known.keys c.args.accounts.now.items c.args.earlier.now
    c.in_ok-position.position c.args.row.now c.requires.numbered c.requires.each c.in_ok-position.ensures.numbered
    c.in_ok-position.ensures.named c.in_ok-position.ensures.found (rw c.field.ensures at c.in_ok-take_account.ensures.same))

pub returns-clause-named : goal.returns-clause-named
returns-clause-named c =
    rw (c.in_ok-take_account.ensures.taken, c.field.ensures)
    (orders_now c.args.orders.now.keys c.next_position.new.known.keys c.args.accounts.now.items c.args.earlier.now
    c.in_ok-position.position c.args.row.now c.requires.numbered c.requires.each c.in_ok-position.ensures.numbered
    c.in_ok-position.ensures.named)

pub returns-clause-each : goal.returns-clause-each
returns-clause-each c =
    rw (c.in_ok-take_account.ensures.taken, c.field.ensures)
    (each_now c.args.orders.now.keys c.next_position.new.known.keys c.args.accounts.now.items c.args.earlier.now
    c.in_ok-position.position c.args.row.now c.requires.numbered c.requires.each c.in_ok-position.ensures.numbered
    c.in_ok-position.ensures.named)

pub take_account-requires-clause-known : goal.take_account-requires-clause-known
take_account-requires-clause-known c =
    place_known c.args.orders.now.keys c.next_position.new.known.keys c.args.accounts.now.items c.args.earlier.now
    c.in_ok-position.position c.args.row.now c.requires.numbered c.requires.each c.in_ok-position.ensures.numbered
    c.in_ok-position.ensures.named
