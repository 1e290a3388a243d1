use Rattle.std.proofs.Common.{◌≡◌, ◌≤◌, length}
use Rattle.span_csv.specs.near.NumberedReading.{next_position}
use Rattle.span_csv.specs.near.RecordReading.{records_after}
use Rattle.span_csv.specs.declared.positions.TheConstants.{POSITION_NAMES}
use Rattle.span_tables.specs.declared.limits.TheConstants.{MAX_ACCOUNTS}
use Rattle.span_tables.specs.near.Positions.{named_positions, AreNumbered}
use Rattle.span_csv.proofs.positions.read_rows.Given as goal

abbrev pub invariant-loop-records : goal.invariant-loop-records
invariant-loop-records l = record {
  numbered : AreNumbered l.accounts.keys l.records.items;
  few : length l.accounts.keys ≤ MAX_ACCOUNTS;
  rest : records_after (next_position POSITION_NAMES MAX_ACCOUNTS) (named_positions l.accounts.keys l.records.items) l.rows
      ≡ records_after (next_position POSITION_NAMES MAX_ACCOUNTS)
      (named_positions l.initial.accounts.keys l.initial.records.items) l.initial.rows;
}

abbrev pub decreases-loop-records : goal.decreases-loop-records
decreases-loop-records l = length l.rows
