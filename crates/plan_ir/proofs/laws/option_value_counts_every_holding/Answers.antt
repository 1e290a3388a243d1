use Rattle.plan_ir.proofs.ValueLaws.{value_counts_all}
use Rattle.plan_ir.proofs.laws.option_value_counts_every_holding.Goals as goal

pub returns : goal.returns
returns c t holdings limits = value_counts_all t limits holdings
