use Rattle.session.proofs.ConversationLaws.{answers_first, state_of_both}
use Rattle.session.proofs.laws.answers_are_the_first_of_more.Goals as goal

pub returns-clause-answers : goal.returns-clause-answers
returns-clause-answers c = answers_first

pub returns-clause-state : goal.returns-clause-state
returns-clause-state c = state_of_both
