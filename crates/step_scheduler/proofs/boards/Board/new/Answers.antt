use Rattle.std.proofs.Common.{◌≡◌, replicate}
use Rattle.std.specs.Arc.{arc_value}
use Rattle.step_scheduler.specs.declared.progress.Progress.TheVariants.{Waiting}
use Rattle.step_scheduler.proofs.Counted.{board_new}
use Rattle.step_scheduler.proofs.boards.Board.new.Goals as goal

pub invariant_of-result : goal.invariant_of-result
invariant_of-result c =
    let compiled = rw c.deref.ensures at c.plan.ensures.compiled in
    let fits = rw c.deref.ensures at c.plan.ensures.fits in
    let count = rw (c.plan.ensures.plan, c.deref.ensures) at c.len-count.ensures in
    let counted = rw (c.deref-3.ensures, c.set.ensures.set, c.deref-2.ensures) at c.in_ok-missing.ensures in
    let long = rw c.deref-4.ensures at c.in_ok-slots.ensures.long in
    let means = rw c.deref-4.ensures at c.in_ok-slots.ensures.means in
    let steps : c.in_ok-steps.steps.items ≡ replicate c.len-count.result Waiting =
    c.in_ok-steps.ensures.items_if_clones_equal (λ y same. same) in
    rw (steps, c.in_ok-history.ensures.items)
    (board_new (arc_value c.args.job) _ _ _ _ _ _ compiled fits count c.in_ok-history.ensures.capacity long means counted)
