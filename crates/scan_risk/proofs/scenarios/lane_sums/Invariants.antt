use Rattle.std.proofs.Common.{◌≡◌, ◌*◌, take, All}
use Rattle.scan_risk.specs.Scenarios.{scenario_sums}
use Rattle.span_tables.specs.declared.limits.TheConstants.{MAX_TERM}
use Rattle.scan_risk.proofs.LaneLemmas.{IsWithin, numbers_in}
use Rattle.scan_risk.proofs.scenarios.lane_sums.Given as goal

abbrev pub invariant-loop-place : goal.invariant-loop-place
invariant-loop-place l = record {
  value : numbers_in l.sums ≡ scenario_sums (take l.place l.held);
  bound : All (IsWithin (l.place * MAX_TERM)) (scenario_sums (take l.place l.held));
}
