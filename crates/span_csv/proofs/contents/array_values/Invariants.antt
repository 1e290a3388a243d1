use Rattle.std.proofs.Common.{◌≡◌, ◌<◌, ◌+◌, ℕ, length, drop, get_or, pos, take, true}
use Rattle.std.specs.List.{list_all}
use Rattle.span_tables.specs.declared.limits.TheConstants.{SCENARIOS}
use Rattle.span_csv.specs.declared.rows.TheConstants.{FIRST_VALUE}
use Rattle.span_csv.specs.near.Grammar.{is_right}
use Rattle.span_csv.specs.Records.{an_array_value, array_place, whole_at}
use Rattle.span_csv.proofs.contents.array_values.Given as goal

abbrev pub invariant-loop-i : goal.invariant-loop-i
invariant-loop-i l = record {
  sixteen : length l.values ≡ SCENARIOS;
  right : list_all (is_right an_array_value) (take l.i (drop array_place l.row)) ≡ true;
  each : (k : ℕ) → k < l.i → get_or l.values k (pos 0) ≡ whole_at l.row (FIRST_VALUE + k);
}
