use Rattle.std.proofs.Common.{◌≡◌, ◌∙◌, ap, drop, map, subst, take, List}
use Rattle.std.specs.Prelude.{IfOk}
use Rattle.span_tables.specs.Net.{AccountHoldings}
use Rattle.binding.specs.OrderBinding.{TriedOrders}
use Rattle.binding.specs.near.Orders.{kept_order}
use Rattle.binding.proofs.KeptOrderLaws.{afters_are}
use Rattle.binding.proofs.orders.Orders.portfolios_with.Goals as goal

pub returns : goal.returns
returns c =
    let n = c.self.inside.contracts in
    let orders = c.self.inside.orders.items in
    let first = c.args.first in
    let count = c.args.count in
    let some = c.some_of-orders.ensures ∙ ap (λ os. take count (drop first os)) c.deref.ensures.value in
    subst (λ (xs : List AccountHoldings). IfOk c.portfolios_after.result (λ all. all.items ≡ xs))
    ((λ i. map (λ o. (kept_order n (c.as_slice.ensures i) o).after) (some i))
    ∙ afters_are n c.self.inside.portfolios orders first count
    ∙ ap (λ (t : TriedOrders). map (λ o. o.after) (take count (drop first t.orders))) c.self.view_is)
    c.portfolios_after.ensures
