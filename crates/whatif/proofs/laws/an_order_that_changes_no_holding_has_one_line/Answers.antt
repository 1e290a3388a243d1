use Rattle.whatif.proofs.ChangeLaws.{due_stays, line_alone, nothing_changes, total_stays}
use Rattle.whatif.proofs.laws.an_order_that_changes_no_holding_has_one_line.Goals as goal

pub returns-clause-none : goal.returns-clause-none
returns-clause-none c = nothing_changes

pub returns-clause-alone : goal.returns-clause-alone
returns-clause-alone c = line_alone

pub returns-clause-total : goal.returns-clause-total
returns-clause-total c = total_stays

pub returns-clause-due : goal.returns-clause-due
returns-clause-due c = due_stays
