use Rattle.std.proofs.Common.{◌≡◌, ◌≤◌, take, nat_abs}
use Rattle.spread_stage.specs.Deltas.{net_delta}
use Rattle.spread_stage.specs.Months.{total_size}
use Rattle.spread_stage.proofs.months.net_delta.Given as goal

abbrev pub invariant-loop-month : goal.invariant-loop-month
invariant-loop-month l = record {
  value : l.net ≡ net_delta (take l.month-index l.months);
  small : nat_abs l.net ≤ total_size (take l.month-index l.months);
}
