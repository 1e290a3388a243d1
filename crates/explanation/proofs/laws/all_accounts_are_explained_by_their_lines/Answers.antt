use Rattle.explanation.proofs.StatementLaws.{all_explained, all_read}
use Rattle.explanation.proofs.laws.all_accounts_are_explained_by_their_lines.Goals as goal

pub returns-clause-all : goal.returns-clause-all
returns-clause-all c = all_explained

pub returns-clause-read : goal.returns-clause-read
returns-clause-read c = all_read
