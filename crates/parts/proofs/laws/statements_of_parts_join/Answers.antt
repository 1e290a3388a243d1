use Rattle.parts.proofs.PartLemmas.{statements_joined, statements_parted}
use Rattle.parts.proofs.laws.statements_of_parts_join.Goals as goal

pub returns-clause-joined : goal.returns-clause-joined
returns-clause-joined c = statements_joined

pub returns-clause-accepted : goal.returns-clause-accepted
returns-clause-accepted c = statements_parted
