use Rattle.spread_stage.proofs.FallLemmas.{spreads_shrink}
use Rattle.spread_stage.proofs.laws.rests_never_grow.Goals as goal

pub returns : goal.returns
returns c = spreads_shrink
