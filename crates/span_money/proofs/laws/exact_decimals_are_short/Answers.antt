use Rattle.span_money.proofs.ShortLaws.{exact_end, exact_front, exact_sign, exact_zero}
use Rattle.span_money.proofs.laws.exact_decimals_are_short.Goals as goal

pub returns-clause-end : goal.returns-clause-end
returns-clause-end c = exact_end

pub returns-clause-front : goal.returns-clause-front
returns-clause-front c = exact_front

pub returns-clause-sign : goal.returns-clause-sign
returns-clause-sign c = exact_sign

pub returns-clause-zero : goal.returns-clause-zero
returns-clause-zero c = exact_zero
