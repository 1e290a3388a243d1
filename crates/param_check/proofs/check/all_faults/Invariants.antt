use Rattle.std.proofs.Common.{◌≡◌, ◌++◌, drop}
use Rattle.param_check.specs.CheckFaults.{check_faults}
use Rattle.param_check.specs.near.NamedRules.{faults_of_rules}
use Rattle.param_check.specs.declared.check.TheConstants.{RULES}
use Rattle.param_check.proofs.check.all_faults.Given as goal

abbrev pub invariant-loop-rule : goal.invariant-loop-rule
invariant-loop-rule l = l.faults.items ++ faults_of_rules l.records (drop l.rule-index RULES) ≡ check_faults l.records
