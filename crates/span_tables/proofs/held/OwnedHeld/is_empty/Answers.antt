use Rattle.std.proofs.Common.{ap, ◌∙◌, eqb}
use Rattle.span_tables.proofs.HeldLemmas.{held_len}
use Rattle.span_tables.proofs.held.OwnedHeld.is_empty.Goals as goal

pub returns : goal.returns
returns c = c.is_empty.ensures ∙ ap (λ n. eqb n 0) (c.self.inside.holdings.ok.0 ∙ held_len _ _ _ c.self.view_is c.self.invariant)
