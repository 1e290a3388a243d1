use Rattle.std.proofs.Common.{◌-◌, ◌≤◌, length}
use Rattle.spread_stage.specs.near.Uses.{IsBehind}
use Rattle.spread_stage.proofs.charges.first_from.Given as goal

abbrev pub invariant-loop-place : goal.invariant-loop-place
invariant-loop-place l = record {
  within : l.place ≤ length l.months;
  behind : IsBehind l.months l.place l.month;
}

abbrev pub decreases-loop-place : goal.decreases-loop-place
decreases-loop-place l = length l.months - l.place
