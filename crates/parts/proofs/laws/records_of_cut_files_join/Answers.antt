use Rattle.std.proofs.lemmas.List.Elements.{recursion_from_All}
use Rattle.span_csv.specs.Cuts.{BeginsWithNoMark, EndsInLineFeed}
use Rattle.parts.proofs.CutListLemmas.{records_of_files}
use Rattle.parts.proofs.laws.records_of_cut_files_join.Goals as goal

pub returns : goal.returns
returns c files ends free unmarked =
    records_of_files files (recursion_from_All EndsInLineFeed files ends) free (recursion_from_All BeginsWithNoMark files unmarked)
