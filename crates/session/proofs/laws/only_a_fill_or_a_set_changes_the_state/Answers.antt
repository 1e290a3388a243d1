use Rattle.session.proofs.ConversationLaws.{state_stays}
use Rattle.session.proofs.laws.only_a_fill_or_a_set_changes_the_state.Goals as goal

pub returns : goal.returns
returns c = state_stays
