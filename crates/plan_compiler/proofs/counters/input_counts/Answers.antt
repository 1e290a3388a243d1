use Rattle.std.proofs.Common.{◌≡◌, length, ap, arith}
use Rattle.plan_compiler.proofs.CounterLemmas.{one_count_more}
use Rattle.plan_compiler.proofs.counters.input_counts.Goals as goal

pub loop-k-preserved : goal.loop-k-preserved
loop-k-preserved c =
    rw (c.push_reserved.ensures.items, c.push_reserved.ensures.capacity)
    (one_count_more _ _ _ _ c.loop-k.invariant.0 (ap length c.inputs.ensures), c.loop-k.invariant.1)

pub returns : goal.returns
returns c =
    let end : c.loop-k.k ≡ length c.args.plan.now = (let e = c.len-k-end.ensures in omega arith) in
    rw end at c.loop-k.invariant.0
