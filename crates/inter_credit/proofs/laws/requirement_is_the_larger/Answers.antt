use Rattle.inter_credit.proofs.MinimumLaws.{requirement_is_least}
use Rattle.inter_credit.proofs.laws.requirement_is_the_larger.Goals as goal

pub returns : goal.returns
returns c = requirement_is_least
