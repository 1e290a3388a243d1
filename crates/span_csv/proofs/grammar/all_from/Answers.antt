use Rattle.std.proofs.Common.{◌∙◌, sym, arith}
use Rattle.span_csv.specs.near.Grammar.{passes}
use Rattle.span_csv.proofs.TestLemmas.{tested, none_left}
use Rattle.span_csv.proofs.grammar.all_from.Goals as goal

pub returns-then-not-passes : goal.returns-then-not-passes
returns-then-not-passes c =
    rw c.if-not-passes.true at (tested (passes c.args.test) c.args.forms.now c.args.row.now c.args.place c.requires.room
    c.loop-i.i c.text_at.result.now c.passes.result _ (omega arith) c.text_at.ensures c.passes.ensures c.loop-i.invariant)

pub loop-i-preserved : goal.loop-i-preserved
loop-i-preserved c =
    rw c.if-not-passes.false at (tested (passes c.args.test) c.args.forms.now c.args.row.now c.args.place c.requires.room
    c.loop-i.i c.text_at.result.now c.passes.result _ (omega arith) c.text_at.ensures c.passes.ensures c.loop-i.invariant)

pub returns : goal.returns
returns c =
    sym (none_left (passes c.args.test) c.args.forms.now c.args.row.now c.args.place c.requires.room c.loop-i.i (omega arith))
    ∙ c.loop-i.invariant
