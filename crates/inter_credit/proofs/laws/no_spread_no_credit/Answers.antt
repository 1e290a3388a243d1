use Rattle.inter_credit.proofs.CreditLaws.{no_spread_no_credit}
use Rattle.inter_credit.proofs.laws.no_spread_no_credit.Goals as goal

pub returns : goal.returns
returns c = no_spread_no_credit
