use Rattle.worker_teams.proofs.TextLemmas.{text_of_batch}
use Rattle.worker_teams.proofs.texts.text_of.Goals as goal

pub returns : goal.returns
returns c = λ set portfolios is. rw (← text_of_batch set portfolios, ← is) c.write.ensures
