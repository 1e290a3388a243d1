use Rattle.param_check.proofs.RuleLaws.{rules_kept}
use Rattle.param_check.proofs.laws.accepted_records_keep_the_rules.Goals as goal

pub returns : goal.returns
returns c = rules_kept
