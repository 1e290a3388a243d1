use Rattle.session.proofs.BookLemmas.{accounts_are_behind, margin_behind}
use Rattle.session.proofs.laws.fills_are_records_behind_the_positions.Goals as goal

pub returns-clause-accounts : goal.returns-clause-accounts
returns-clause-accounts c = accounts_are_behind

pub returns-clause-margin : goal.returns-clause-margin
returns-clause-margin c = margin_behind
