use Rattle.std.proofs.Common.{◌≡◌, length, map, take}
use Rattle.plan_ir.specs.near.Noting.{places_of_all}
use Rattle.plan_ir.proofs.users.users_by_step.Given as goal

abbrev pub invariant-loop-step : goal.invariant-loop-step
invariant-loop-step l = record {
  users : map (λ v. v.items) l.users.items ≡ places_of_all (length l.inputs) (take l.step l.inputs);
  len : length l.users.items ≡ length l.inputs;
}
