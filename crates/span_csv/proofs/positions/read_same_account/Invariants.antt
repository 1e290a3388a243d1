use Rattle.std.proofs.Common.{◌≡◌, ◌≤◌, length}
use Rattle.span_csv.specs.near.NumberedReading.{next_position}
use Rattle.span_csv.specs.near.RecordReading.{records_after}
use Rattle.span_csv.specs.declared.positions.TheConstants.{POSITION_NAMES}
use Rattle.span_tables.specs.declared.limits.TheConstants.{MAX_ACCOUNTS}
use Rattle.span_tables.specs.near.Positions.{named_positions, AreNumbered}
use Rattle.span_csv.proofs.positions.read_same_account.Given as goal

abbrev pub invariant-loop-contract : goal.invariant-loop-contract
invariant-loop-contract l = record {
  numbered : AreNumbered l.accounts l.records.items;
  left : length l.rows ≤ length l.initial.rows;
  read : records_after (next_position POSITION_NAMES MAX_ACCOUNTS) (named_positions l.accounts l.records.items) l.rows
      ≡ records_after (next_position POSITION_NAMES MAX_ACCOUNTS) (named_positions l.accounts l.initial.records.items) l.initial.rows;
}

abbrev pub decreases-loop-contract : goal.decreases-loop-contract
decreases-loop-contract l = length l.rows
