use Rattle.session.proofs.AnswerLemmas.{both_refused, both_total}
use Rattle.session.proofs.laws.a_fill_behind_a_try_has_its_total.Goals as goal

pub returns-clause-total : goal.returns-clause-total
returns-clause-total c = both_total

pub returns-clause-refused : goal.returns-clause-refused
returns-clause-refused c = both_refused
