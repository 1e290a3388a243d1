use Rattle.statement_text.proofs.ProfileLemmas.{accepted_values, no_value_held, read_values}
use Rattle.statement_text.proofs.laws.profile_1_has_no_option_values.Goals as goal

pub returns-clause-read : goal.returns-clause-read
returns-clause-read c = read_values

pub returns-clause-accepted : goal.returns-clause-accepted
returns-clause-accepted c = accepted_values

pub returns-clause-sum : goal.returns-clause-sum
returns-clause-sum c = no_value_held
