use Rattle.session.proofs.ConversationLaws.{numbered, outcomes_both, outcomes_with}
use Rattle.session.proofs.laws.a_request_that_changes_nothing_may_be_left_out.Goals as goal

pub returns-clause-with : goal.returns-clause-with
returns-clause-with c = outcomes_with

pub returns-clause-without : goal.returns-clause-without
returns-clause-without c = outcomes_both

pub returns-clause-numbers : goal.returns-clause-numbers
returns-clause-numbers c = numbered
