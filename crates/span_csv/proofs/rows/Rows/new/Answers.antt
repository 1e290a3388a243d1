use Rattle.std.proofs.Common.{◌∙◌, sym, ap}
use Rattle.memchr.specs.Find.{is_byte2}
use Rattle.span_csv.specs.near.Rows.{rows_in}
use Rattle.span_csv.proofs.CutLemmas.{mark_free, records_are}
use Rattle.span_csv.proofs.rows.Rows.new.Goals as goal

pub invariant_of-result : goal.invariant_of-result
invariant_of-result c =
    rw c.without_mark.ensures (mark_free (is_byte2 34 13) c.args.bytes.now (c.are_lines.ensures c.if-are_lines.true))

pub returns-then-are_lines : goal.returns-then-are_lines
returns-then-are_lines c = ap rows_in c.without_mark.ensures ∙ sym (records_are c.args.bytes.now)
