use Rattle.step_scheduler.proofs.RunOrder.{complete_once}
use Rattle.step_scheduler.proofs.laws.complete_runs_do_each_step_once.Goals as goal

pub returns : goal.returns
returns c = complete_once
