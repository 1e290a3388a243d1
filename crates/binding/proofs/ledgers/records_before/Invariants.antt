use Rattle.std.proofs.Common.{◌≡◌, ◌≤◌, ◌-◌, false, length}
use Rattle.std.specs.List.{AllWithin}
use Rattle.binding.specs.near.Ledgers.{is_of}
use Rattle.binding.proofs.ledgers.records_before.Given as goal

abbrev pub invariant-loop-start : goal.invariant-loop-start
invariant-loop-start l = record {
  within : l.start ≤ length l.records;
  others : AllWithin (λ p. is_of l.first l.count p ≡ false) l.records 0 l.start;
}

abbrev pub decreases-loop-start : goal.decreases-loop-start
decreases-loop-start l = length l.records - l.start
