use Rattle.inter_credit.proofs.WeightLaws.{weight-inter_both_ways}
use Rattle.inter_credit.proofs.laws.spreads_formed_add_weight.Goals as goal

pub returns : goal.returns
returns c = weight-inter_both_ways
