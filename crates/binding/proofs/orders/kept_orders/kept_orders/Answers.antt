use Rattle.std.proofs.Common.{◌≡◌, ◌+◌, ◌<◌, ◌∙◌, ◌++◌, ◌∷◌, [], ap, sym, length, arith}
use Rattle.std.proofs.lemmas.List.{length-append}
use Rattle.binding.specs.near.Orders.{account_at}
use Rattle.binding.specs.declared.orders.kept_orders.KeptOrder.{KeptOrder}
use Rattle.binding.proofs.KeptOrderLaws.{kept_more}
use Rattle.binding.proofs.orders.kept_orders.kept_orders.Goals as goal

pub loop-entries-preserved : goal.loop-entries-preserved
loop-entries-preserved c =
    let was = c.loop-entries.invariant in
    let i = c.len-order.result in
    let name = c.index-names-order.result in
    let account = c.index-accounts-order.result in
    let size = ap length c.in-Some.ensures.steps.0 in
    let lt : i < length c.args.names.now = omega (arith, size, c.len-order.ensures, was.left) in
    let lt' : i < length c.args.accounts.now = omega (arith, lt, c.requires.names, c.requires.accounts) in
    let at : i ≡ length c.loop-entries.yielded = omega (arith, c.len-order.ensures, was.many) in
    let order : KeptOrder = record { name = c.copied.result; account = c.order_account.result; entries = c.in-Some.entries } in
    let pushed = ap length c.in_ok-push.ensures.items ∙ length-append c.loop-entries.orders.items (order ∷ []) in
    let made = ap (λ n. (let it : KeptOrder = record { name = n; account = c.order_account.result; entries = c.in-Some.entries } in it))
    c.copied.ensures
    ∙ ap (λ a. (let it : KeptOrder = record { name = name; account = a; entries = c.in-Some.entries } in it))
    (c.order_account.ensures ∙ ap (λ o. account_at o account) (c.in_ok-places.ensures account)) in
    record {
      are =
          c.in_ok-push.ensures.items
          ∙ ap (λ o. c.loop-entries.orders.items ++ o ∷ []) made
          ∙ kept_more c.args.portfolios.now c.args.names.now c.args.accounts.now c.loop-entries.yielded i name account c.in-Some.entries lt
          lt' at c.index-names-order.is c.index-accounts-order.is c.loop-entries.orders.items was.are;
      many = pushed ∙ ap (λ n. n + 1) was.many ∙ sym (length-append c.loop-entries.yielded (c.in-Some.entries ∷ []));
      left = omega (arith, pushed, size, was.left);
    }
