use Rattle.span_csv.specs.Records.{Fields, records_of, text_at}
use Rattle.parts.proofs.PartFileListLemmas.{file_accepted_rearranged, file_lines_rearranged}
use Rattle.parts.proofs.SortedLemmas.{stable_sort}
use Rattle.parts.proofs.laws.sorted_files_have_the_same_lines.Goals as goal

pub returns-clause-sorted : goal.returns-clause-sorted
returns-clause-sorted c one sorted = stable_sort (λ (r : Fields). text_at r 0) (records_of one) (records_of sorted)

pub returns-clause-accepted : goal.returns-clause-accepted
returns-clause-accepted c = file_accepted_rearranged

pub returns-clause-lines : goal.returns-clause-lines
returns-clause-lines c params t one other text accepted = file_lines_rearranged params t accepted one other text
