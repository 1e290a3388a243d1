use Rattle.std.proofs.Common.{◌≡◌, map, take}
use Rattle.plan_compiler.specs.Places.{inputs_of}
use Rattle.plan_compiler.proofs.layout.inputs_of_all.Given as goal

abbrev pub invariant-loop-op : goal.invariant-loop-op
invariant-loop-op l = l.lists ≡ map (inputs_of l.tables) (take l.op-index l.ops)
