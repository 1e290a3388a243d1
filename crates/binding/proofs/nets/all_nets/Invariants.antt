use Rattle.std.proofs.Common.{◌≡◌, map, length}
use Rattle.binding.specs.near.Sums.{kept_holdings}
use Rattle.binding.proofs.nets.all_nets.Given as goal

abbrev pub invariant-loop-ledger : goal.invariant-loop-ledger
invariant-loop-ledger l = l.nets.items ≡ map (kept_holdings (length l.numbers.keys)) l.yielded
