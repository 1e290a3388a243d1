use Rattle.span_csv.specs.Records.{Fields, text_at}
use Rattle.parts.proofs.PartListLemmas.{files_by_cuts, sorted_cut}
use Rattle.parts.proofs.laws.sorted_files_are_cut_between_accounts.Goals as goal

pub returns-clause-cut : goal.returns-clause-cut
returns-clause-cut c = sorted_cut (λ (r : Fields). text_at r 0)

pub returns-clause-all : goal.returns-clause-all
returns-clause-all c = files_by_cuts
