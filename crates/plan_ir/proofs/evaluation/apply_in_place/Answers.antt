use Rattle.plan_ir.proofs.evaluation.apply_in_place.Goals as goal

pub spread-requires-in-InterSpread-Inter : goal.spread-requires-in-InterSpread-Inter
spread-requires-in-InterSpread-Inter c =
    let taken = rw (c.in-InterSpread-Inter.is-0, c.in-InterSpread-Inter.is-1) at c.requires.inputs.taken in
    c.inter_at.ensures.in_range _ (rw c.inter_at.ensures.value taken.among)
