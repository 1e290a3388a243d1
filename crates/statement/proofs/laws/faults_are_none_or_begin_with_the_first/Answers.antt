use Rattle.statement.proofs.AllFaultLemmas.{first_of_files, first_of_one_file, none_exactly}
use Rattle.statement.proofs.laws.faults_are_none_or_begin_with_the_first.Goals as goal

pub returns-clause-both : goal.returns-clause-both
returns-clause-both c = first_of_files

pub returns-clause-none_of_both : goal.returns-clause-none_of_both
returns-clause-none_of_both c = λ params positions. none_exactly _ _ (first_of_files params positions)

pub returns-clause-params : goal.returns-clause-params
returns-clause-params c = first_of_one_file

pub returns-clause-none_of_params : goal.returns-clause-none_of_params
returns-clause-none_of_params c = λ params. none_exactly _ _ (first_of_one_file params)
