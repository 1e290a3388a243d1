use Rattle.std.proofs.Common.{◌∙◌, sym}
use Rattle.memchr.specs.Find.{is_byte2}
use Rattle.span_csv.proofs.CutPlaces.{found_any}
use Rattle.span_csv.proofs.lines.are_lines.Goals as goal

pub returns : goal.returns
returns c = λ none.
    sym (found_any (is_byte2 34 13) c.args.bytes.now c.memchr2.result c.memchr2.ensures) ∙ rw none at c.is_none.ensures
