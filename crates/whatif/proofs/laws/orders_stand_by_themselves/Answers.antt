use Rattle.std.proofs.Common.{ap, refl}
use Rattle.whatif.specs.Whatif.{order_text, whatif_text}
use Rattle.std.proofs.lemmas.Grind.{flat_map-append}
use Rattle.binding.proofs.TriedLaws.{same_order}
use Rattle.whatif.proofs.laws.orders_stand_by_themselves.Goals as goal

pub returns-clause-same : goal.returns-clause-same
returns-clause-same c = λ t portfolios these those order e. ap (order_text t) (same_order t.contracts portfolios order these those e)

pub returns-clause-none : goal.returns-clause-none
unfolding whatif_text
returns-clause-none c = λ t. refl

pub returns-clause-in_order : goal.returns-clause-in_order
unfolding whatif_text
returns-clause-in_order c = λ t some others. flat_map-append (order_text t) some others
