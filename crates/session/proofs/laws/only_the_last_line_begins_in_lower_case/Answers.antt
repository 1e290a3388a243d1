use Rattle.session.proofs.LowerCaseLemmas.{answers_free, opening_free}
use Rattle.session.proofs.laws.only_the_last_line_begins_in_lower_case.Goals as goal

pub returns-clause-opening : goal.returns-clause-opening
returns-clause-opening c = opening_free

pub returns-clause-answers : goal.returns-clause-answers
returns-clause-answers c = answers_free
