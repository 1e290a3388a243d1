use Rattle.whatif.proofs.NothingLaws.{nothing_owes_nothing, nothing_requires_nothing, nothing_totals_nothing, unheld_requires_nothing}
use Rattle.whatif.proofs.laws.what_holds_nothing_requires_nothing.Goals as goal

pub returns-clause-commodity : goal.returns-clause-commodity
returns-clause-commodity c = unheld_requires_nothing

pub returns-clause-commodities : goal.returns-clause-commodities
returns-clause-commodities c = nothing_requires_nothing

pub returns-clause-total : goal.returns-clause-total
returns-clause-total c = nothing_totals_nothing

pub returns-clause-due : goal.returns-clause-due
returns-clause-due c = nothing_owes_nothing
