use Rattle.std.proofs.Common.{◌≡◌, ◌++◌, flat_map, take}
use Rattle.plan_ir.specs.Listing.{input_text}
use Rattle.plan_ir.proofs.listing.push_inputs.Given as goal

abbrev pub invariant-loop-input : goal.invariant-loop-input
invariant-loop-input l = l.out.items ≡ l.initial.out.items ++ flat_map input_text (take l.input-index l.inputs)
