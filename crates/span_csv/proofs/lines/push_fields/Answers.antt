use Rattle.std.proofs.Common.{◌∙◌, ◌+◌, ◌≤◌, arith, sym, rules, length}
use Rattle.std.proofs.lemmas.List.{length-drop, take_rest}
use Rattle.csv.specs.Records.{fields_of}
use Rattle.span_csv.proofs.PlainLines.{lines_behind, rows_at_comma, rows_at_end, rows_at_line}
use Rattle.span_csv.proofs.lines.push_fields.Goals as goal

pub overflow_add-left : goal.overflow_add-left
overflow_add-left c =
    let within : c.in-Some.end + 1 ≤ length c.args.bytes.now = omega (arith, c.in-Some.ensures.0.high, c.loop-end.invariant.few) in
    search rules

pub returns-then-ends_line-clause-lines : goal.returns-then-ends_line-clause-lines
returns-then-ends_line-clause-lines c =
    rw (take_rest c.loop-end.left.now (c.in-Some.end + 1))
    (lines_behind c.loop-end.left.now c.loop-end.invariant.lines c.in-Some.end c.in-Some.ensures)

pub returns-then-ends_line-clause-row : goal.returns-then-ends_line-clause-row
returns-then-ends_line-clause-row c =
    rw (take_rest c.loop-end.left.now (c.in-Some.end + 1), c.in_ok-push_field.ensures.fields, c.loop-end.invariant.whole)
    (sym c.loop-end.invariant.same
    ∙ rows_at_line c.loop-end.left.now c.loop-end.invariant.lines c.in-Some.end c.in-Some.ensures (fields_of c.loop-end.row)
    c.if-ends_line.true)

pub loop-end-preserved : goal.loop-end-preserved
loop-end-preserved c =
    rw (take_rest c.loop-end.left.now (c.in-Some.end + 1)) (record {
      lines = lines_behind c.loop-end.left.now c.loop-end.invariant.lines c.in-Some.end c.in-Some.ensures;
      few = omega (arith, length-drop (c.in-Some.end + 1) c.loop-end.left.now, c.loop-end.invariant.few);
      whole = c.in_ok-push_field.ensures.partial;
      same = rw (c.in_ok-push_field.ensures.fields, c.loop-end.invariant.whole)
          (sym (rows_at_comma c.loop-end.left.now c.loop-end.invariant.lines c.in-Some.end c.in-Some.ensures
          (fields_of c.loop-end.row) c.if-ends_line.false) ∙ c.loop-end.invariant.same);
    })

pub returns-clause-row : goal.returns-clause-row
returns-clause-row c =
    rw (c.in_ok-push_field-2.ensures.fields, c.loop-end.invariant.whole)
    (sym c.loop-end.invariant.same
    ∙ rows_at_end c.loop-end.left.now c.loop-end.invariant.lines (fields_of c.loop-end.row)
    (rw c.in_default.is at c.field_end.ensures))
