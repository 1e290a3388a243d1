use Rattle.reasons.proofs.TotalLaws.{total_shown}
use Rattle.explanation.proofs.laws.total_is_the_sum_of_the_requirements_shown.Goals as goal

pub returns : goal.returns
returns c t p = total_shown t p.holdings
