use Rattle.step_scheduler.proofs.FoundLemmas.{found_more}
use Rattle.step_scheduler.proofs.opening.found_values.Goals as goal

pub loop-of_commodity-preserved : goal.loop-of_commodity-preserved
loop-of_commodity-preserved c =
    let set = rw c.deref-in-loop-of_commodity.ensures at c.gather_step-step.ensures in
    found_more c.args.job.now c.loop-of_commodity.commodity c.gather_step-step.result c.in-Some.of_commodity _ _ _ _
    c.loop-of_commodity.invariant c.in-Some.ensures.steps.0
    (rw c.set-set.ensures.set at set.in_range) (rw c.set-set.ensures.set at set.op) c.in_ok-as_value.ensures
