use Rattle.std.proofs.Common.{◌≡◌, map, take}
use Rattle.whatif.specs.near.Befores.{held_at}
use Rattle.whatif.proofs.befores.portfolios_at.Given as goal

abbrev pub invariant-loop-place : goal.invariant-loop-place
invariant-loop-place l = map (λ p. p.holdings) l.some.items ≡ map (held_at l.all) (take l.place-index l.places)
