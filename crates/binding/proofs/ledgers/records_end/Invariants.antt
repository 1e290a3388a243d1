use Rattle.std.proofs.Common.{◌≡◌, ◌≤◌, false, length}
use Rattle.std.specs.List.{AllWithin}
use Rattle.binding.specs.near.Ledgers.{is_of}
use Rattle.binding.proofs.ledgers.records_end.Given as goal

abbrev pub invariant-loop-end : goal.invariant-loop-end
invariant-loop-end l = record {
  within : l.end ≤ length l.records;
  others : AllWithin (λ p. is_of l.first l.count p ≡ false) l.records l.end (length l.records);
}

abbrev pub decreases-loop-end : goal.decreases-loop-end
decreases-loop-end l = l.end
