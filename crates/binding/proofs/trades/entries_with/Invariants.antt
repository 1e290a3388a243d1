use Rattle.std.proofs.Common.{◌≡◌, ◌++◌, false, map, take}
use Rattle.std.specs.List.{list_any}
use Rattle.binding.specs.near.Ledgers.{held_entries}
use Rattle.binding.specs.near.Trades.{is_unlisted, trade_entry}
use Rattle.binding.proofs.trades.entries_with.Given as goal

abbrev pub invariant-loop-number : goal.invariant-loop-number
invariant-loop-number l = record {
  entries : l.ledger ≡ held_entries l.held ++ map (trade_entry l.numbers.keys) (take l.number l.trades);
  known : list_any (is_unlisted l.numbers.keys) (take l.number l.trades) ≡ false;
}
