use Rattle.std.proofs.Common.{◌≡◌, map, take}
use Rattle.span_tables.specs.Net.{accounts_of}
use Rattle.binding.specs.near.Ledgers.{is_foreign, listed_records}
use Rattle.binding.specs.near.Nets.{entries_of}
use Rattle.binding.specs.declared.faults.BindFault.TheVariants as fault
use Rattle.binding.proofs.UnfitWalk.{AreTold}
use Rattle.binding.proofs.ledgers.gather.Given as goal

abbrev pub invariant-loop-number : goal.invariant-loop-number
invariant-loop-number l = record {
  ledgers_are : l.ledgers.items
      ≡ map (entries_of l.numbers.keys (listed_records l.numbers.keys (take l.number l.positions))) (accounts_of l.positions);
  so_far : AreTold fault.UnknownContract (λ earlier p. is_foreign l.numbers.keys p) l.positions l.unknown.items l.number;
}
