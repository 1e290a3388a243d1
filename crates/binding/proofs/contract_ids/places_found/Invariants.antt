use Rattle.std.proofs.Common.{◌≡◌, map, take}
use Rattle.binding.specs.near.Ledgers.{contract_place}
use Rattle.binding.proofs.contract_ids.places_found.Given as goal

abbrev pub invariant-loop-position : goal.invariant-loop-position
invariant-loop-position l = l.found.items ≡ map (λ p. contract_place l.numbers.keys p.contract) (take l.position-index l.records)
