use Rattle.plan_compiler.proofs.StageLemmas.{states_are}
use Rattle.step_scheduler.proofs.whole.Whole.new.Goals as goal

pub figures_of_all-requires-clause-states : goal.figures_of_all-requires-clause-states
figures_of_all-requires-clause-states g c =
    states_are _ _ _ _ _ c.spread_all.ensures.value c.in_ok-load_all.ensures.value c.inters.ensures.value
