use Rattle.std.proofs.Common.{◌≡◌, ◌++◌, take}
use Rattle.param_check.specs.near.NamedRules.{IsSeen, rule_fault, rule_faults}
use Rattle.param_check.specs.near.Overlaps.{months_in}
use Rattle.binding.proofs.AllFaults.{faults_from}
use Rattle.param_check.proofs.check.tell_rule.Given as goal

abbrev pub invariant-loop-index : goal.invariant-loop-index
invariant-loop-index l = record {
  seen : IsSeen l.rule l.records (take l.index l.records) l.keys.keys (months_in l.tiers);
  told : l.faults.items ++ faults_from (rule_fault l.records l.rule) l.records l.index ≡ l.fn.faults.items ++ rule_faults l.records l.rule;
}
