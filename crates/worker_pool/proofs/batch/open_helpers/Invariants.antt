use Rattle.std.proofs.Common.{◌≡◌, ◌+◌, map, length, vec_len}
use Rattle.std.specs.List.{range_with_len}
use Rattle.worker_pool.proofs.batch.open_helpers.Given as goal

-- the opened helpers and those still to be opened are all helpers, and their numbers follow the coordinator's
abbrev pub invariant-loop-results : goal.invariant-loop-results
invariant-loop-results g l = record {
  many : length l.all.items + length l.results-iterator.rest.items ≡ vec_len l.fn.results;
  numbers : map (λ h. h.number) l.all.items ≡ range_with_len (l.team.first + 1) (length l.all.items);
}
