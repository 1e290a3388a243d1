use Rattle.spread_stage.proofs.FallLemmas.{side_falls}
use Rattle.spread_stage.proofs.laws.side_falls_by_what_was_used.Goals as goal

pub returns : goal.returns
returns c = side_falls
