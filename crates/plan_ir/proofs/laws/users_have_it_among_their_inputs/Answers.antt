use Rattle.plan_ir.proofs.UserLaws.{users_are_steps, users_just, users_rise}
use Rattle.plan_ir.proofs.laws.users_have_it_among_their_inputs.Goals as goal

pub returns-clause-just : goal.returns-clause-just
returns-clause-just c = users_just

pub returns-clause-steps : goal.returns-clause-steps
returns-clause-steps c = users_are_steps

pub returns-clause-rising : goal.returns-clause-rising
returns-clause-rising c = users_rise
