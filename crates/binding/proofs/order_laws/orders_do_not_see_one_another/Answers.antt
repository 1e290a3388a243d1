use Rattle.binding.proofs.TriedLaws.{order_alone, same_order}
use Rattle.binding.proofs.order_laws.orders_do_not_see_one_another.Goals as goal

pub returns-clause-same : goal.returns-clause-same
returns-clause-same c = λ contracts portfolios these those order. same_order contracts portfolios order these those

pub returns-clause-alone : goal.returns-clause-alone
returns-clause-alone c = λ contracts portfolios records order. order_alone contracts portfolios order records
