use Rattle.std.proofs.Common.{◌≡◌, ◌∙◌, ap, rules, Err, length}
use Rattle.span_csv.proofs.OrderLemmas.{orders_of-reading}
use Rattle.span_csv.proofs.OrderSteps.{order_records-numbered}
use Rattle.span_csv.proofs.orders.read_orders.Goals as goal

pub returns-in_err-read_order_rows : goal.returns-in_err-read_order_rows
returns-in_err-read_order_rows c =
    let e : c.from_residual.result ≡ Err c.in_err-read_order_rows.field-0.0 = search rules in
    rw (e, ← orders_of-reading c.args.bytes.now)
    (rw (c.new-records.ensures.items, c.new-rows.ensures) at c.in_err-read_order_rows.ensures.read)

pub new-requires-2 : goal.new-requires-2
new-requires-2 c = rw c.new.ensures (c.in_ok-read_order_rows.ensures.each ∙ ap length c.in_ok-read_order_rows.ensures.numbered.accounts_are)

pub returns : goal.returns
returns c =
    let new = c.read_order_rows.new in
    let stand = order_records-numbered new.orders.keys new.accounts.items new.records.items c.in_ok-read_order_rows.ensures.numbered in
    rw (c.new-2.ensures, c.new.ensures, stand, ← orders_of-reading c.args.bytes.now)
    (rw (c.new-records.ensures.items, c.new-rows.ensures) at c.in_ok-read_order_rows.ensures.read)
