use Rattle.std.specs.Arc.{arc_value}
use Rattle.worker_pool.specs.Batches.{jobs_of}
use Rattle.worker_pool.proofs.batch.run_by_team.Given as goal

-- the batch is the list of jobs of the portfolios
abbrev pub ghosts-run_on_many : goal.ghosts-run_on_many
ghosts-run_on_many g a = record { jobs = jobs_of (arc_value a.set.now) a.portfolios.items }
