use Rattle.std.proofs.Common.{◌≡◌, length, ◌-◌, ◌≤◌}
use Rattle.std.specs.List.{AllWithin}
use Rattle.span_tables.specs.near.Gathered.{number_held}
use Rattle.span_tables.proofs.runs.end_of_run.Given as goal

abbrev pub invariant-loop-end : goal.invariant-loop-end
invariant-loop-end l = record {
  begins : l.start ≤ l.end;
  inside : l.end ≤ length l.holdings;
  same : AllWithin (λ h. number_held l.tables h ≡ l.commodity) l.holdings l.start l.end;
}

abbrev pub decreases-loop-end : goal.decreases-loop-end
decreases-loop-end l = length l.holdings - l.end
