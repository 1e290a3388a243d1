use Rattle.explanation.proofs.StatementLaws.{account_contained, files_contained}
use Rattle.explanation.proofs.laws.explanations_contain_the_statement.Goals as goal

pub returns-clause-account : goal.returns-clause-account
returns-clause-account c = account_contained

pub returns-clause-files : goal.returns-clause-files
returns-clause-files c = files_contained
