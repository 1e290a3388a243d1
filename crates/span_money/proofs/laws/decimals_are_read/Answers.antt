use Rattle.span_money.proofs.DecimalLaws.{is_decimal, of_decimal}
use Rattle.span_money.proofs.laws.decimals_are_read.Goals as goal

pub returns-clause-reads : goal.returns-clause-reads
returns-clause-reads c = of_decimal

pub returns-clause-no_other : goal.returns-clause-no_other
returns-clause-no_other c = is_decimal
