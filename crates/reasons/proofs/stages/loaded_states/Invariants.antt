use Rattle.std.proofs.Common.{◌≡◌}
use Rattle.plan_compiler.specs.Meaning.{states_loaded}
use Rattle.reasons.proofs.stages.loaded_states.Given as goal

abbrev pub invariant-loop-commodity : goal.invariant-loop-commodity
invariant-loop-commodity l = l.state ≡ states_loaded l.tables (l.portfolio).holdings l.commodity
