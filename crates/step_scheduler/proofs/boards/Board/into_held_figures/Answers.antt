use Rattle.step_scheduler.proofs.FormLemmas.{all_values}
use Rattle.step_scheduler.proofs.boards.Board.into_held_figures.Goals as goal

pub held_figures-requires : goal.held_figures-requires
held_figures-requires c =
    rw c.deref.ensures (all_values _ _ _ c.in-Stepped.is c.self.invariant (rw (← c.self.view_is) at c.requires.finished))
