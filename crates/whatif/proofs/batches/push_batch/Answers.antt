use Rattle.std.proofs.Common.{◌≡◌, ◌∙◌, ◌+◌, ◌-◌, ◌<◌, ◌++◌, ℕ, List, Some, ap, arith, length, subst, sym}
use Rattle.std.specs.Arc.{arc_value}
use Rattle.std.specs.Prelude.{option_map}
use Rattle.std.proofs.lemmas.Option.{slice_get-get_or}
use Rattle.binding.specs.OrderBinding.{TriedOrder}
use Rattle.step_scheduler.specs.Rows.{RowView}
use Rattle.worker_pool.specs.Batches.{FitsSet}
use Rattle.worker_teams.specs.near.OutcomeRows.{rows_of_accounts}
use Rattle.whatif.specs.Whatif.{order_text}
use Rattle.whatif.specs.near.Orders.{no_order, order_at}
use Rattle.whatif.specs.near.Trials.{IsTried}
use Rattle.whatif.proofs.BatchLemmas.{batch_holds, row_there}
use Rattle.whatif.proofs.TextLemmas.{written_next}
use Rattle.whatif.proofs.batches.push_batch.Goals as goal

pub rows_of-requires-after_bounds : goal.rows_of-requires-after_bounds
rows_of-requires-after_bounds g c κs within =
    batch_holds (FitsSet (arc_value c.args.lent.now.set.now)) c.args.orders.now c.args.first (c.args.end - c.args.first)
    c.in_ok-portfolios.portfolios.items c.in_ok-portfolios.ensures c.requires.fits

pub new-requires : goal.new-requires
new-requires g c =
    let set = arc_value c.args.lent.now.set.now in
    let tried = c.args.orders.now in
    let first = c.args.first in
    let order = c.loop-order.order in
    let within : order < c.args.end = omega (arith, c.loop-order-test.true, c.loop-order.auto.order) in
    let after : c.deref.result.now ≡ record { set = set; portfolio = (order_at tried order).after } =
    c.deref.ensures ∙ ap arc_value c.index.ensures
    ∙ row_there set tried first (c.args.end - first) (order - first) order (omega (arith, c.requires.first, c.requires.end))
    (omega (arith, c.loop-order.auto.order, within)) (omega (arith, c.loop-order.auto.order))
    c.in_ok-rows.rows.items c.index.result.now (c.in_ok-rows.ensures ∙ ap (rows_of_accounts set) c.in_ok-portfolios.ensures) in
    let before = c.requires.befores.each order (omega (arith, within, c.requires.end)) c.at-before.result.now c.at-before.ensures in
    ap (λ s. s.tables) before.set_is ∙ sym (ap (λ (r : RowView). r.set.tables) after)

pub loop-order-preserved : goal.loop-order-preserved
loop-order-preserved g c =
    let set = arc_value c.args.lent.now.set.now in
    let tried = c.args.orders.now in
    let first = c.args.first in
    let order = c.loop-order.order in
    let o : TriedOrder = order_at tried order in
    let f : ℕ → List ℕ = λ i. order_text set.tables (order_at tried i) in
    let within : order < length tried.orders =
    omega (arith, c.loop-order-test.true, c.loop-order.auto.order, c.requires.end) in
    let after : c.deref.result.now ≡ record { set = set; portfolio = o.after } =
    c.deref.ensures ∙ ap arc_value c.index.ensures
    ∙ row_there set tried first (c.args.end - first) (order - first) order (omega (arith, c.requires.first, c.requires.end))
    (omega (arith, c.loop-order.auto.order, c.loop-order-test.true)) (omega (arith, c.loop-order.auto.order))
    c.in_ok-rows.rows.items c.index.result.now (c.in_ok-rows.ensures ∙ ap (rows_of_accounts set) c.in_ok-portfolios.ensures) in
    let before = c.requires.befores.each order within c.at-before.result.now c.at-before.ensures in
    let named : Some o.order ≡ Some c.name-name.result.now =
    ap (option_map (λ (x : TriedOrder). x.order)) (sym (slice_get-get_or tried.orders order no_order within)) ∙ c.name-name.ensures in
    let is : IsTried c.new.result o = subst (λ v. IsTried v o) (sym c.new.ensures) (record {
      order_is = cc;
      before_is = before.holds;
      after_is = ap (λ (r : RowView). r.portfolio) after;
    }) in
    let tables : c.new.result.tables ≡ set.tables = ap (λ v. v.tables) c.new.ensures ∙ ap (λ (r : RowView). r.set.tables) after in
    c.in_ok-push_to.ensures o is
    ∙ (λ k. c.loop-order.invariant k ++ order_text (tables k) o)
    ∙ written_next f c.args.out.now.items first (order - first) order (order + 1 - first) (omega (arith, c.loop-order.auto.order))
    (omega (arith, c.loop-order.auto.order))
