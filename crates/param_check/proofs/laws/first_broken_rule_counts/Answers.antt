use Rattle.std.proofs.Common.{[], sym, ◌∙◌}
use Rattle.span_tables.proofs.FaultLaws.{first_fault_some}
use Rattle.span_tables.proofs.OrderLaws.{first_some_is}
use Rattle.param_check.proofs.RuleLaws.{check_fault_by_rule}
use Rattle.param_check.proofs.laws.first_broken_rule_counts.Goals as goal

pub returns-clause-first : goal.returns-clause-first
returns-clause-first c = λ fault breaks all y. first_fault_some _ [] all y

pub returns-clause-rule : goal.returns-clause-rule
returns-clause-rule c = λ all y e. first_some_is _ y (sym (check_fault_by_rule all) ∙ e)
