use Rattle.std.proofs.Common.{◌≡◌, ◌≤◌, ◌*◌, ℕ, map, take, get_or, pos, length}
use Rattle.std.specs.Prelude.{nat_abs}
use Rattle.std.specs.List.{range_with_len}
use Rattle.span_tables.specs.declared.limits.TheConstants.{MAX_QUANTITY}
use Rattle.binding.specs.near.Nets.{entry_net}
use Rattle.binding.proofs.nets.add_all.Given as goal

abbrev pub invariant-loop-entry : goal.invariant-loop-entry
invariant-loop-entry l = record {
  table : l.nets ≡ map (entry_net (take l.entry-index l.entries)) (range_with_len 0 (length l.fn.nets));
  small : (k : ℕ) → nat_abs (get_or l.nets k (pos 0)) ≤ l.entry-index * MAX_QUANTITY;
}
