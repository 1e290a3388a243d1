use Rattle.inter_credit.proofs.CreditLaws.{credit_zero, credit_greatest}
use Rattle.inter_credit.proofs.laws.credit_is_greatest.Goals as goal

pub returns-clause-zero : goal.returns-clause-zero
returns-clause-zero c = credit_zero

pub returns-clause-greatest : goal.returns-clause-greatest
returns-clause-greatest c = credit_greatest
