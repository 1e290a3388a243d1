use Rattle.std.proofs.Common.{arith}
use Rattle.reasons.specs.Reasons.{held_reason}
use Rattle.reasons.proofs.ReasonLineLemmas.{lines_more}
use Rattle.reasons.proofs.held.push_held.Goals as goal

pub loop-place-preserved : goal.loop-place-preserved
loop-place-preserved c =
    lines_more (held_reason c.args.tables.now) c.args.ids.now c.args.held.now c.loop-place.place _ _ _ (omega arith)
    c.in_ok-push_held_at.ensures c.loop-place.invariant
