use Rattle.std.proofs.Common.{◌≡◌, ◌+◌, vec_len}
use Rattle.crossbeam_queue.specs.Passes.{IsPassOf, view}
use Rattle.worker_pool.proofs.queue_ends.open_results.Given as goal

abbrev pub invariant-loop : goal.invariant-loop
invariant-loop g l = record {
  queue : IsPassOf l.queue l.pass;
  batch : (view l.pass).batch ≡ g.B.Batch.jobs;
  parts : (view l.pass).parts + l.counter ≡ 1024;
  many : vec_len l.ends ≡ l.counter;
}
