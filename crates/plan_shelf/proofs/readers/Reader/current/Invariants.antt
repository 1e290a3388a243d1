use Rattle.std.proofs.Common.{◌≡◌}
use Rattle.plan_shelf.proofs.readers.Reader.current.Given as goal

abbrev pub invariant-loop : goal.invariant-loop
invariant-loop g l = l.self ≡ l.initial.self
