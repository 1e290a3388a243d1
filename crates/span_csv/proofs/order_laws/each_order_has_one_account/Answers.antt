use Rattle.span_csv.proofs.OrderAccountLaws.{one_account}
use Rattle.span_csv.proofs.order_laws.each_order_has_one_account.Goals as goal

pub returns : goal.returns
returns c = one_account
