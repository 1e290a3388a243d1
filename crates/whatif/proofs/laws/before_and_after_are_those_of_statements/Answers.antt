use Rattle.whatif.proofs.AccountLaws.{before_is, before_is_nothing}
use Rattle.whatif.proofs.BehindLaws.{after_found}
use Rattle.whatif.proofs.laws.before_and_after_are_those_of_statements.Goals as goal

pub returns-clause-before : goal.returns-clause-before
returns-clause-before c = before_is

pub returns-clause-nothing : goal.returns-clause-nothing
returns-clause-nothing c = before_is_nothing

pub returns-clause-after : goal.returns-clause-after
returns-clause-after c = after_found
