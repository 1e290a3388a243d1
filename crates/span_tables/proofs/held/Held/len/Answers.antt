use Rattle.std.proofs.Common.{subst}
use Rattle.span_tables.specs.Holdings.{AreHeld}
use Rattle.span_tables.proofs.HeldLemmas.{are_held, held_len}
use Rattle.span_tables.proofs.held.Held.len.Goals as goal

pub returns-clause-value : goal.returns-clause-value
returns-clause-value c = held_len _ _ _ c.self.view_is c.self.invariant

pub returns-clause-kept : goal.returns-clause-kept
returns-clause-kept c = subst AreHeld c.self.view_is (are_held _ _ c.self.invariant)
