use Rattle.std.proofs.Common.{◌≡◌, length, map, take}
use Rattle.plan_ir.specs.near.Noting.{noted}
use Rattle.plan_ir.proofs.users.note.Given as goal

abbrev pub invariant-loop-input : goal.invariant-loop-input
invariant-loop-input l = record {
  noted : map (λ v. v.items) l.users.items ≡ noted l.step (take l.input-index l.inputs) (map (λ v. v.items) l.initial.users.items);
  len : length l.users.items ≡ length l.initial.users.items;
}
