use Rattle.std.proofs.Common.{◌≡◌, ◌+◌}
use Rattle.crossbeam_deque.specs.Handles.{worker_view}
use Rattle.worker_pool.proofs.ends.open_deque.Given as goal

abbrev pub invariant-loop : goal.invariant-loop
invariant-loop g l = record {
  batch : (worker_view l.deque).batch ≡ g.B.Batch.jobs;
  parts : (worker_view l.deque).parts + l.counter ≡ 1024;
}
