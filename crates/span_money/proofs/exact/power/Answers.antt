use Rattle.span_money.proofs.ExactLemmas.{power_at, power_positive}
use Rattle.span_money.proofs.exact.power.Goals as goal

pub returns-clause-value : goal.returns-clause-value
returns-clause-value c = power_at c.args.exponent c.requires

pub returns-clause-positive : goal.returns-clause-positive
returns-clause-positive c = rw (power_at c.args.exponent c.requires) (power_positive c.args.exponent)
