use Rattle.std.proofs.Common.{◌≡◌, ◌+◌, take}
use Rattle.std.specs.Prelude.{length}
use Rattle.binding.specs.near.Holdings.{portfolios_from}
use Rattle.binding.proofs.positions.portfolios_from.Given as goal

abbrev pub invariant-loop-held : goal.invariant-loop-held
invariant-loop-held l = record {
  are : l.all.items ≡ portfolios_from (take (length l.yielded) l.accounts) l.yielded;
  many : length l.all.items ≡ length l.yielded;
  left : length l.all.items + length l.held-iterator.rest.items ≡ length l.accounts;
}
