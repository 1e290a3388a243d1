use Rattle.std.proofs.Common.{◌<◌, ◌∙◌, ◌++◌, ◌∷◌, [], ap, length, map, subst, sym, take}
use Rattle.std.specs.Prelude.{All}
use Rattle.std.proofs.lemmas.List.{map_more, take_all, take_more}
use Rattle.std.proofs.lemmas.List.Elements.{All-push}
use Rattle.span_tables.specs.Holdings.{ArePortfolio}
use Rattle.binding.specs.near.Holdings.{excess_of}
use Rattle.binding.specs.near.Orders.{kept_after, portfolio_before}
use Rattle.binding.specs.declared.orders.kept_orders.KeptOrder.{KeptOrder}
use Rattle.binding.proofs.orders.kept_orders.order_excesses.Goals as goal

pub loop-order-preserved : goal.loop-order-preserved
loop-order-preserved c =
    let was = c.loop-order.invariant in
    let orders = c.args.orders.now in
    let portfolios = c.args.portfolios.now in
    let i = c.loop-order.order-index in
    let o = c.order-item.result in
    let lt : i < length orders = c.loop-order-test.true in
    let of_order = λ (x : KeptOrder). excess_of (kept_after c.args.contracts portfolios x) in
    let holds = λ (x : KeptOrder). ArePortfolio (portfolio_before portfolios x.account).holdings in
    record {
      are =
          c.in_ok-push.ensures.items
          ∙ ap (λ x. c.loop-order.excesses.items ++ x ∷ [])
          (c.in_ok-excess_of.ensures ∙ ap excess_of c.in_ok-nets.ensures.nets)
          ∙ ap (λ xs. xs ++ of_order o ∷ []) was.are
          ∙ sym (map_more of_order orders i o lt ∙ ap (λ x. map of_order (take i orders) ++ of_order x ∷ []) (sym c.order-item.is));
      before = subst (All holds) (sym (take_more orders i o lt ∙ ap (λ x. take i orders ++ x ∷ []) (sym c.order-item.is)))
          (All-push holds (take i orders) o was.before c.nets_after.ensures.before);
    }

pub returns-clause-before : goal.returns-clause-before
returns-clause-before c =
    let holds = λ (x : KeptOrder). ArePortfolio (portfolio_before c.args.portfolios.now x.account).holdings in
    subst (All holds) (take_all c.loop-order.order-index c.args.orders.now c.loop-order-test.false) c.loop-order.invariant.before
