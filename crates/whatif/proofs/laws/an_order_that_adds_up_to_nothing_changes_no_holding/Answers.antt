use Rattle.whatif.proofs.AccountLaws.{nothing_added}
use Rattle.whatif.proofs.laws.an_order_that_adds_up_to_nothing_changes_no_holding.Goals as goal

pub returns : goal.returns
returns c = nothing_added
