use Rattle.std.proofs.Common.{◌≡◌, map, take}
use Rattle.std.specs.Arc.{arc_value}
use Rattle.step_scheduler.specs.near.Slots.{value_at}
use Rattle.step_scheduler.proofs.handing.holds_on.Given as goal

abbrev pub invariant-loop-step : goal.invariant-loop-step
invariant-loop-step l = map arc_value l.values.items ≡ map (value_at l.slots) (take l.step-index l.steps)
