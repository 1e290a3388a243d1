use Rattle.span_csv.proofs.CutLemmas.{records_joined}
use Rattle.span_csv.proofs.position_laws.files_are_cut_at_lines.Goals as goal

pub returns : goal.returns
returns c = records_joined
