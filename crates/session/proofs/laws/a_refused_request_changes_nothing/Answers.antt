use Rattle.session.proofs.ConversationLaws.{refused_same}
use Rattle.session.proofs.laws.a_refused_request_changes_nothing.Goals as goal

pub returns : goal.returns
returns c = refused_same
