use Rattle.std.proofs.Common.{◌≡◌, ◌+◌, ◌*◌, ◌≤◌, take}
use Rattle.span_tables.specs.declared.limits.TheConstants.{MAX_NET}
use Rattle.inter_credit.specs.Requirement.{is_call, is_put, short_count}
use Rattle.inter_credit.proofs.requirement.short_counts.Given as goal

abbrev pub invariant-loop-place : goal.invariant-loop-place
invariant-loop-place l = record {
  calls : l.calls ≡ short_count is_call (take l.place l.held);
  puts : l.puts ≡ short_count is_put (take l.place l.held);
  bound : l.calls + l.puts ≤ l.place * MAX_NET;
}
