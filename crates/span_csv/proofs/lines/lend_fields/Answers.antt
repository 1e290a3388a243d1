use Rattle.std.proofs.Common.{◌∙◌, ◌+◌, ◌≤◌, ◌∷◌, [], arith, sym, rules, length}
use Rattle.std.proofs.lemmas.List.{length-drop, map-append, take_rest}
use Rattle.span_csv.specs.near.Rows.{texts_of}
use Rattle.span_csv.proofs.PlainLines.{lines_behind, rows_at_comma, rows_at_end, rows_at_line}
use Rattle.span_csv.proofs.lines.lend_fields.Goals as goal

pub overflow_add-left : goal.overflow_add-left
overflow_add-left c =
    let within : c.in-Some.end + 1 ≤ length c.args.bytes.now = omega (arith, c.in-Some.ensures.0.high, c.loop-end.invariant.few) in
    search rules

pub returns-then-ends_line-clause-lines : goal.returns-then-ends_line-clause-lines
returns-then-ends_line-clause-lines c =
    rw (take_rest c.loop-end.left.now (c.in-Some.end + 1))
    (lines_behind c.loop-end.left.now c.loop-end.invariant.lines c.in-Some.end c.in-Some.ensures)

pub returns-then-ends_line-clause-row : goal.returns-then-ends_line-clause-row
returns-then-ends_line-clause-row c =
    rw (
      take_rest c.loop-end.left.now (c.in-Some.end + 1),
      c.push.ensures.items,
      map-append (λ text. text.now) c.loop-end.fields.items (_ ∷ []),
    )
    (sym c.loop-end.invariant.same
    ∙ rows_at_line c.loop-end.left.now c.loop-end.invariant.lines c.in-Some.end c.in-Some.ensures (texts_of c.loop-end.fields.items)
    c.if-ends_line.true)

pub loop-end-preserved : goal.loop-end-preserved
loop-end-preserved c =
    rw (take_rest c.loop-end.left.now (c.in-Some.end + 1)) (record {
      lines = lines_behind c.loop-end.left.now c.loop-end.invariant.lines c.in-Some.end c.in-Some.ensures;
      few = omega (arith, length-drop (c.in-Some.end + 1) c.loop-end.left.now, c.loop-end.invariant.few);
      same = rw (c.push.ensures.items, map-append (λ text. text.now) c.loop-end.fields.items (_ ∷ []))
          (sym (rows_at_comma c.loop-end.left.now c.loop-end.invariant.lines c.in-Some.end c.in-Some.ensures
          (texts_of c.loop-end.fields.items) c.if-ends_line.false) ∙ c.loop-end.invariant.same);
    })

pub returns-clause-row : goal.returns-clause-row
returns-clause-row c =
    rw (c.push-2.ensures.items, map-append (λ text. text.now) c.loop-end.fields.items (_ ∷ []))
    (sym c.loop-end.invariant.same
    ∙ rows_at_end c.loop-end.left.now c.loop-end.invariant.lines (texts_of c.loop-end.fields.items)
    (rw c.in_default.is at c.field_end.ensures))
