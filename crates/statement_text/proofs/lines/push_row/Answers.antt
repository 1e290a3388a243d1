use Rattle.std.proofs.Common.{◌∙◌, ◌++◌, ap}
use Rattle.span_money.proofs.LinePartLemmas.{numbered_more}
use Rattle.statement_text.specs.Statement.{commodity_text}
use Rattle.statement_text.proofs.lines.push_row.Goals as goal

pub loop-number-preserved : goal.loop-number-preserved
loop-number-preserved c =
    let f = commodity_text c.args.row.now.set.tables c.args.row.now.portfolio in
    let n = c.loop-number.number in
    c.in_ok-push_if_held.ensures ∙ ap (λ t. t ++ f n) c.loop-number.invariant ∙ numbered_more f c.args.out.now.items n
