use Rattle.explanation.proofs.AcceptedLemmas.{portfolios_accepted}
use Rattle.explanation.proofs.laws.accounts_of_accepted_files_are_accepted.Goals as goal

pub returns : goal.returns
returns c = portfolios_accepted
