use Rattle.std.proofs.Common.{◌≡◌, ◌∙◌, sym, rules, true}
use Rattle.std.specs.Result.{is_ok}
use Rattle.std.proofs.lemmas.Result.{err_from_is_err_and}
use Rattle.span_csv.specs.OrderFaults.{is_memory}
use Rattle.span_csv.specs.near.OrderReading.{next_order, numbered_order, numbered_orders}
use Rattle.span_csv.proofs.RecordLemmas.{records_after-ok, records_after-refused, records_after-end}
use Rattle.span_csv.proofs.orders.read_order_rows.Goals as goal

pub returns-in_err-order-clause-read : goal.returns-in_err-order-clause-read
returns-in_err-order-clause-read c =
    let p = err_from_is_err_and c.from_residual-in_err-order.result c.from_residual-in_err-order.ensures.1 in
    let next = rw c.if-branch.true at c.in_ok-next.ensures.found in
    let earlier = numbered_orders c.loop-records.orders.keys c.loop-records.accounts.items c.loop-records.records.items in
    rw (p.1, p.2, ← c.loop-records.invariant.rest, next)
    (records_after-refused next_order is_memory earlier c.next.new.row c.next.new.self
    _ (rw c.deref.ensures.value at c.in_err-order.ensures.found))

pub loop-records-preserved : goal.loop-records-preserved
loop-records-preserved c =
    let good : is_ok c.push.result ≡ true = search rules in
    let items = rw good at c.push.ensures.items in
    let next = rw c.if-branch.true at c.in_ok-next.ensures.found in
    let rest = rw next at c.loop-records.invariant.rest in
    let earlier = numbered_orders c.loop-records.orders.keys c.loop-records.accounts.items c.loop-records.records.items in
    let order = numbered_order c.next_order.new.orders.keys c.next_order.new.accounts.items c.in_ok-order.order in
    let named = rw c.deref.ensures.value at c.in_ok-order.ensures.named in
    let read = rw c.deref.ensures.value at c.in_ok-order.ensures.found in
    record {
      numbered = rw items (rw c.deref.ensures.value at c.in_ok-order.ensures.numbered);
      each = c.in_ok-order.ensures.each;
      rest = rw (items, named)
          (sym (records_after-ok next_order earlier c.next.new.row c.next.new.self order read) ∙ rest);
    }

pub returns-clause-read : goal.returns-clause-read
returns-clause-read c =
    let none = rw c.if-branch.false at c.in_ok-next.ensures.found in
    let rest = rw none at c.loop-records.invariant.rest in
    sym rest ∙ records_after-end next_order
    (numbered_orders c.loop-records.orders.keys c.loop-records.accounts.items c.loop-records.records.items)
