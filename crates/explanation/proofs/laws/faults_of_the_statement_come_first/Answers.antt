use Rattle.explanation.proofs.FileLemmas.{faults_explained}
use Rattle.explanation.proofs.laws.faults_of_the_statement_come_first.Goals as goal

pub returns : goal.returns
returns c = faults_explained
