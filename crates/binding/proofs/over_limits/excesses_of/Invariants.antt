use Rattle.std.proofs.Common.{◌≡◌, map, take}
use Rattle.binding.specs.near.Holdings.{excess_of}
use Rattle.binding.proofs.over_limits.excesses_of.Given as goal

abbrev pub invariant-loop-account : goal.invariant-loop-account
invariant-loop-account l = l.excesses.items ≡ map excess_of (take l.account-index l.nets)
