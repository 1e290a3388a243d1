use Rattle.std.proofs.Common.{◌≡◌, ◌+◌, take}
use Rattle.std.specs.Prelude.{length}
use Rattle.binding.specs.near.Orders.{all_kept_as}
use Rattle.binding.proofs.orders.kept_orders.kept_orders.Given as goal

abbrev pub invariant-loop-entries : goal.invariant-loop-entries
invariant-loop-entries l = record {
  are : l.orders.items ≡ all_kept_as l.portfolios (take (length l.yielded) l.names) (take (length l.yielded) l.accounts) l.yielded;
  many : length l.orders.items ≡ length l.yielded;
  left : length l.orders.items + length l.entries-iterator.rest.items ≡ length l.names;
}
