use Rattle.inter_credit.proofs.RestLaws.{both_ways_use, length-inter_both_ways}
use Rattle.inter_credit.proofs.laws.spread_uses_rests.Goals as goal

pub returns-clause-length : goal.returns-clause-length
returns-clause-length c = length-inter_both_ways

pub returns-clause-states : goal.returns-clause-states
returns-clause-states c = both_ways_use
