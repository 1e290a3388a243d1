use Rattle.std.proofs.Common.{◌≡◌, take}
use Rattle.binding.specs.near.Holdings.{ids_of}
use Rattle.binding.proofs.contract_ids.ids_of.Given as goal

abbrev pub invariant-loop-contract : goal.invariant-loop-contract
invariant-loop-contract l = l.numbers.keys ≡ ids_of (take l.contract-index l.contract-items)
