use Rattle.reasons.proofs.TotalLaws.{value_shown}
use Rattle.explanation.proofs.laws.value_is_the_sum_of_the_values_shown.Goals as goal

pub returns : goal.returns
returns c t p = value_shown t p.holdings
