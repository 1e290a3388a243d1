use Rattle.plan_ir.proofs.evaluation.changes_nothing.Goals as goal

pub may_spread-requires-in-InterSpread : goal.may_spread-requires-in-InterSpread
may_spread-requires-in-InterSpread c =
    let taken = rw c.in-InterSpread.is at c.requires.taken in
    c.inter_at.ensures.in_range _ (rw (c.inter_at.ensures.value, c.inter.ensures) taken.among)
