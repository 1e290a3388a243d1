use Rattle.span_tables.proofs.SpreadLaws.{formed_fit, formed_greatest}
use Rattle.span_tables.proofs.laws.spreads_formed_are_greatest.Goals as goal

pub returns-clause-fit : goal.returns-clause-fit
returns-clause-fit c = formed_fit

pub returns-clause-greatest : goal.returns-clause-greatest
returns-clause-greatest c = formed_greatest
