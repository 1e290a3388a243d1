use Rattle.inter_credit.proofs.MinimumLaws.{short_count_is, minimum_of_sum, minimum_of_max}
use Rattle.inter_credit.proofs.laws.minimum_counts_short_options.Goals as goal

pub returns-clause-counts : goal.returns-clause-counts
returns-clause-counts c = short_count_is

pub returns-clause-sum : goal.returns-clause-sum
returns-clause-sum c = minimum_of_sum

pub returns-clause-larger : goal.returns-clause-larger
returns-clause-larger c = minimum_of_max
