use Rattle.std.proofs.Common.{ℕ, length, arith}
use Rattle.std.proofs.lemmas.List.{length_push}
use Rattle.std.proofs.lemmas.Iterator.Adapters.{YieldsList-from_rev_slice}
use Rattle.std.proofs.lemmas.Iterator.Consumers.{YieldsList-turn, YieldsList-end}
use Rattle.step_scheduler.proofs.Counting.{all_released, next_user, at_u, released_and_freed, released_and_kept}
use Rattle.step_scheduler.proofs.counters.release.Goals as goal

pub overflow_sub-left : goal.overflow_sub-left
overflow_sub-left c =
    let u : ℕ = c.in-Some.user.now in
    let back = YieldsList-from_rev_slice {s = c.into_iter-user-iterator.result} c.args.users.now cc in
    let turn = YieldsList-turn back c.loop-user.yielded _ c.loop-user.yielded_by _ _ c.in-Some.user c.in-Some.is c.next.ensures.steps in
    let next = next_user _ _ _ _ (length c.loop-user.yielded) u c.requires turn.0 turn.1 in
    let at = at_u _ _ _ _ _ _ _ u c.loop-user.invariant next.fresh next.in_range next.positive _ _ c.index.ensures in
    let positive = next.positive in
    omega arith

pub loop-user-preserved-then-left-eq0 : goal.loop-user-preserved-then-left-eq0
loop-user-preserved-then-left-eq0 c =
    let u : ℕ = c.in-Some.user.now in
    let back = YieldsList-from_rev_slice {s = c.into_iter-user-iterator.result} c.args.users.now cc in
    let turn = YieldsList-turn back c.loop-user.yielded _ c.loop-user.yielded_by _ _ c.in-Some.user c.in-Some.is c.next.ensures.steps in
    let next = next_user _ _ _ _ (length c.loop-user.yielded) u c.requires turn.0 turn.1 in
    rw (length_push c.loop-user.yielded c.in-Some.user, next.more, c.push_reserved.ensures.items, c.push_reserved.ensures.capacity)
    (released_and_freed _ _ _ _ _ _ _ u c.loop-user.invariant next.fresh next.in_range next.positive _ _ c.index.ensures
    c.if-left-eq0.true)

pub loop-user-preserved : goal.loop-user-preserved
loop-user-preserved c =
    let u : ℕ = c.in-Some.user.now in
    let back = YieldsList-from_rev_slice {s = c.into_iter-user-iterator.result} c.args.users.now cc in
    let turn = YieldsList-turn back c.loop-user.yielded _ c.loop-user.yielded_by _ _ c.in-Some.user c.in-Some.is c.next.ensures.steps in
    let next = next_user _ _ _ _ (length c.loop-user.yielded) u c.requires turn.0 turn.1 in
    rw (length_push c.loop-user.yielded c.in-Some.user, next.more)
    (released_and_kept _ _ _ _ _ _ _ u c.loop-user.invariant next.fresh next.in_range next.positive _ _ c.index.ensures
    c.if-left-eq0.false)

pub returns : goal.returns
returns c =
    let back = YieldsList-from_rev_slice {s = c.into_iter-user-iterator.result} c.args.users.now cc in
    let end = YieldsList-end back c.loop-user.yielded _ c.loop-user.yielded_by _ _ c.in-None.is c.next.ensures.steps in
    all_released c.args.users.now _ _ _ _ _ _ _ end.1 c.loop-user.invariant
