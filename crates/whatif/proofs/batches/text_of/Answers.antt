use Rattle.std.proofs.Common.{◌≡◌, ◌∙◌, ◌+◌, ◌-◌, ◌≤◌, ◌++◌, [], ℕ, List, ap, arith, length}
use Rattle.std.specs.Arc.{arc_value}
use Rattle.whatif.specs.Whatif.{order_text}
use Rattle.whatif.specs.near.Orders.{order_at, orders_text}
use Rattle.whatif.proofs.BatchLemmas.{all_orders}
use Rattle.whatif.proofs.TextLemmas.{written_more}
use Rattle.whatif.proofs.batches.text_of.Goals as goal

pub loop-first-preserved : goal.loop-first-preserved
loop-first-preserved g c =
    let t = (arc_value c.args.lent.now.set.now).tables in
    let tried = c.args.orders.now in
    let first = c.loop-first.first in
    let end = first + c.min.result in
    let within : end ≤ length tried.orders =
    omega (arith, c.min.ensures, c.len-in-loop-first.ensures, c.loop-first.invariant.0) in
    let f : ℕ → List ℕ = λ i. order_text t (order_at tried i) in (
      within,
      c.in_ok-push_batch.ensures ∙ ap (λ text. text ++ orders_text t tried first (end - first)) c.loop-first.invariant.1
          ∙ written_more f [] 0 first first (end - first) end (omega arith) (omega arith),
    )

pub returns : goal.returns
returns g c =
    let t = (arc_value c.args.lent.now.set.now).tables in
    let tried = c.args.orders.now in
    let all : c.loop-first.first ≡ length tried.orders =
    omega (arith, c.loop-first-test.false, c.loop-first.invariant.0, c.len.ensures) in
    c.loop-first.invariant.1 ∙ ap (orders_text t tried 0) all ∙ all_orders t tried
