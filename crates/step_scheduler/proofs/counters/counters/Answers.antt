use Rattle.std.proofs.Common.{length, ap, arith}
use Rattle.step_scheduler.proofs.Counted.{counters_all}
use Rattle.step_scheduler.proofs.counters.counters.Goals as goal

pub returns : goal.returns
returns c =
    let made = c.in_ok-ready.ensures.capacity in
    let kept = c.in_ok-extend_from_slice-2.ensures.capacity in
    rw (
      c.in_ok-extend_from_slice.ensures.items,
      c.in_ok-missing.ensures.items,
      c.in_ok-extend_from_slice-2.ensures.items,
      c.in_ok-ready.ensures.items,
    )
    (counters_all _ _ _ _ c.missing.ensures c.ready.ensures
    (omega (arith, made, kept, c.len-count.ensures, ap length c.plan.ensures.plan)))
