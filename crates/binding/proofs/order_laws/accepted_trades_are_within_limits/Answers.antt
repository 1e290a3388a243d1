use Rattle.binding.proofs.TraderLaws.{after_holds}
use Rattle.binding.proofs.order_laws.accepted_trades_are_within_limits.Goals as goal

pub returns : goal.returns
returns c = after_holds
