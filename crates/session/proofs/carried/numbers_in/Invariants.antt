use Rattle.std.proofs.Common.{◌≡◌, map, take}
use Rattle.session.specs.near.Carried.{number_of}
use Rattle.session.proofs.carried.numbers_in.Given as goal

abbrev pub invariant-loop-contract : goal.invariant-loop-contract
invariant-loop-contract l = l.numbers.items ≡ map (λ x. number_of l.new.contracts x.id) (take l.contract-index l.contract-items)
