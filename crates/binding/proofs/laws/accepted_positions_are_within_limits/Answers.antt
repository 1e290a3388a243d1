use Rattle.binding.proofs.AcceptedLaws.{all_known, nets_within, few_held}
use Rattle.binding.proofs.laws.accepted_positions_are_within_limits.Goals as goal

pub returns-clause-known : goal.returns-clause-known
returns-clause-known c = all_known

pub returns-clause-nets : goal.returns-clause-nets
returns-clause-nets c = nets_within

pub returns-clause-held : goal.returns-clause-held
returns-clause-held c = few_held
