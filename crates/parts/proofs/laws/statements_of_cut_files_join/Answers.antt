use Rattle.parts.proofs.PartFileLemmas.{bytes_joined, bytes_parted}
use Rattle.parts.proofs.laws.statements_of_cut_files_join.Goals as goal

pub returns-clause-joined : goal.returns-clause-joined
returns-clause-joined c = bytes_joined

pub returns-clause-accepted : goal.returns-clause-accepted
returns-clause-accepted c = bytes_parted
