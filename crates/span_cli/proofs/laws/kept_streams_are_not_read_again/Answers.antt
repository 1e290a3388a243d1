use Rattle.span_cli.proofs.StreamLemmas.{kept_name, name_stays, no_other_name}
use Rattle.span_cli.proofs.laws.kept_streams_are_not_read_again.Goals as goal

pub returns-clause-kept : goal.returns-clause-kept
returns-clause-kept c = kept_name

pub returns-clause-stays : goal.returns-clause-stays
returns-clause-stays c = name_stays

pub returns-clause-others : goal.returns-clause-others
returns-clause-others c = no_other_name
