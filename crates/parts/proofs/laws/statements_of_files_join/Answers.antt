use Rattle.parts.proofs.PartFileLemmas.{files_joined, files_parted}
use Rattle.parts.proofs.laws.statements_of_files_join.Goals as goal

pub returns-clause-joined : goal.returns-clause-joined
returns-clause-joined c params whole first second one other cut apart =
    files_joined whole first second cut apart params one other

pub returns-clause-accepted : goal.returns-clause-accepted
returns-clause-accepted c params whole first second text cut apart = files_parted whole first second cut apart params text
