use Rattle.std.proofs.Common.{◌≡◌, ◌∙◌, ℕ, ◌∷◌, [], ap, arith, length, subst, sym}
use Rattle.std.proofs.lemmas.List.{length-append}
use Rattle.whatif.specs.near.Befores.{AreSlots, HasSlot}
use Rattle.whatif.specs.near.Orders.{order_at}
use Rattle.whatif.proofs.BeforeLemmas.{slots_more}
use Rattle.whatif.proofs.befores.slots_of.Goals as goal

pub loop-order-preserved : goal.loop-order-preserved
loop-order-preserved c =
    let tried = c.args.orders.now in
    let before = c.loop-order.slots.items in
    let slot = c.in_ok-slot_before.field-0 in
    let later = c.slot_before.new.places.keys in
    let count : length before ≡ c.loop-order.order = c.loop-order.invariant.0 in
    let own = subst (λ n. HasSlot tried.portfolios later slot (order_at tried n).before.holdings) (sym {A = ℕ} count)
    c.in_ok-slot_before.ensures.slot in
    let more = slots_more tried c.loop-order.places.keys later before slot c.loop-order.invariant.1
    c.in_ok-slot_before.ensures.kept own in (
      (let all = length-append before (slot ∷ []) in ap length c.in_ok-push.ensures.items ∙ omega (arith, all, count)),
      subst (AreSlots tried later) (sym c.in_ok-push.ensures.items) more,
    )
