use Rattle.std.proofs.Common.{◌≡◌, ◌*◌}
use Rattle.binding.specs.near.Sums.{held_below}
use Rattle.binding.proofs.contract_sums.Sums.holdings.Given as goal

abbrev pub invariant-loop-word : goal.invariant-loop-word
invariant-loop-word l = l.held.items ≡ held_below l.self-inside.marks.items l.self-inside.places.items (64 * l.word)
