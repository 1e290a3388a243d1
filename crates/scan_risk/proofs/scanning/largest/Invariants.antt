use Rattle.std.proofs.Common.{◌≡◌, ◌≤◌, take, pos, fold, get_or, nat_abs}
use Rattle.std.specs.Int.{int_max}
use Rattle.span_tables.specs.declared.limits.TheConstants.{MAX_SUM}
use Rattle.scan_risk.proofs.scanning.largest.Given as goal

abbrev pub invariant-loop-sum : goal.invariant-loop-sum
invariant-loop-sum l = record {
  value : l.largest ≡ fold int_max (get_or l.sums 0 (pos 0)) (take l.sum-index l.sums);
  bound : nat_abs l.largest ≤ MAX_SUM;
}
