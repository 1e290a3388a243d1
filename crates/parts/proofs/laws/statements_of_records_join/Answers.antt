use Rattle.parts.proofs.PartListLemmas.{list_joined, list_parted}
use Rattle.parts.proofs.laws.statements_of_records_join.Goals as goal

pub returns-clause-joined : goal.returns-clause-joined
returns-clause-joined c = list_joined

pub returns-clause-accepted : goal.returns-clause-accepted
returns-clause-accepted c = list_parted
