use Rattle.std.proofs.Common.{◌≡◌, take}
use Rattle.std.specs.List.{list_any}
use Rattle.span_tables.specs.Net.{accounts_of}
use Rattle.binding.specs.near.Holdings.{exceeds_anew, fault_of, is_told}
use Rattle.binding.specs.declared.over_limits.Told.{Told}
use Rattle.binding.proofs.LimitLaws.{is_member}
use Rattle.binding.proofs.UnfitWalk.{AreTold}
use Rattle.binding.proofs.over_limits.limit_faults.Given as goal

abbrev pub invariant-loop-number : goal.invariant-loop-number
invariant-loop-number l = record {
  members : (t : Told) → is_told l.told.keys t
      ≡ list_any (is_member l.limit l.numbers.keys (accounts_of l.positions) l.excesses l.positions t) (take l.number l.positions);
  so_far : AreTold (fault_of l.limit) (exceeds_anew l.limit l.numbers.keys (accounts_of l.positions) l.excesses) l.positions
      l.faults.items l.number;
}
