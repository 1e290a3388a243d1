use Rattle.std.proofs.Common.{◌≡◌, ◌∙◌}
use Rattle.std.specs.Arc.{arc_value}
use Rattle.plan_ir.specs.Plans.{inputs_at}
use Rattle.step_scheduler.proofs.Slots.{found_means, given_inputs}
use Rattle.step_scheduler.proofs.handing.task_of.Goals as goal

pub new-requires : goal.new-requires
new-requires c =
    let plan = rw c.deref.ensures at c.plan.ensures.plan in
    let inputs : c.inputs.result.now ≡ inputs_at (arc_value c.args.job.now).set.plan c.args.step = cc in
    rw c.in_ok-hold.ensures
    (record {
      is_task = record {
        in_range = c.requires.in_range;
        fed = rw inputs at c.in_ok-inputs.ensures ∙ given_inputs _ c.args.slots.now c.args.step c.requires;
      };
      right = found_means _ c.args.slots.now c.args.step c.requires _ c.index-slots-step.is _ c.in_ok-found.ensures;
    })
