use Rattle.std.proofs.Common.{[], ◌∷◌}
use Rattle.std.specs.Arc.{arc_value}
use Rattle.batch_tests.proofs.ends.front_and_back.Given as goal

-- the batch has this job only
abbrev pub ghosts-tasks_in_order : goal.ghosts-tasks_in_order
ghosts-tasks_in_order g a = record { jobs = arc_value a.job.now ∷ [] }

abbrev pub ghosts-results_in_order : goal.ghosts-results_in_order
ghosts-results_in_order g a = record { jobs = arc_value a.job.now ∷ [] }
