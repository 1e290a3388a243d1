use Rattle.std.proofs.Common.{◌∙◌, ap, pos, sym}
use Rattle.plan_ir.specs.declared.values.Value.TheVariants as value
use Rattle.spread_stage.specs.Spreads.{unspread}
use Rattle.plan_ir.proofs.NothingLemmas.{delivery_of_no_months, month_deltas_of_nothing}
use Rattle.plan_ir.proofs.nothing.NothingHeld.of_no_months.Goals as goal

pub returns-in-TierStart : goal.returns-in-TierStart
returns-in-TierStart c = λ t holdings rest takes.
    rw c.in-TierStart.is (c.self.invariant.tiers_are ∙ ap (λ months. value.Tiers (unspread months)) month_deltas_of_nothing)

pub returns-in-Delivery : goal.returns-in-Delivery
returns-in-Delivery c = λ t holdings rest takes.
    let taken = rw c.in-Delivery.is at takes.taken in
    rw c.in-Delivery.is
    (c.self.invariant.amount_is ∙ ap (λ charge. value.Amount (pos charge)) (sym (delivery_of_no_months _ _ taken.shrinks)))
