use Rattle.std.proofs.Common.{◌≤◌, ap, arith, length}
use Rattle.plan_shelf.proofs.BeginningLemmas.{IsPrefix-shorter}
use Rattle.plan_shelf.proofs.history.Beginning.longer.Goals as goal

-- both beginnings are prefixes of what was seen with both
pub returns-then-self-other-clause-this : goal.returns-then-self-other-clause-this
returns-then-self-other-clause-this g c =
    let own_begins = rw (ap (λ s. s.log) c.again-both.ensures) at c.learn.ensures.2 in
    let shorter : length c.self.inside.seen.log ≤ length c.other.inside.seen.log =
    omega (arith, c.self.invariant.0, c.other.invariant.0) in
    rw (c.copied.ensures, ← c.self.view_is, ← c.other.view_is) (IsPrefix-shorter _ _ _ own_begins c.learn.ensures.3 shorter)

pub returns-clause-that : goal.returns-clause-that
returns-clause-that g c =
    let own_begins = rw (ap (λ s. s.log) c.again-both.ensures) at c.learn.ensures.2 in
    let shorter : length c.other.inside.seen.log ≤ length c.self.inside.seen.log =
    omega (arith, c.self.invariant.0, c.other.invariant.0) in
    let begins = IsPrefix-shorter _ _ _ c.learn.ensures.3 own_begins shorter in
    rw (c.copied-else-self-other.ensures, ← c.self.view_is, ← c.other.view_is) begins
