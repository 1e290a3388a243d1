use Rattle.spread_stage.proofs.SpreadLemmas.{charge-spread_both_ways}
use Rattle.spread_stage.proofs.laws.each_spread_formed_is_charged.Goals as goal

pub returns : goal.returns
returns c = charge-spread_both_ways
