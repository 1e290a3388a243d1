use Rattle.std.proofs.Common.{◌≡◌, ℕ, ◌+◌, ◌<◌, List, ◌++◌, ◌∙◌, append_assoc, ap, drop, get_or, length, sym}
use Rattle.std.proofs.lemmas.List.{drop_more}
use Rattle.span_tables.specs.declared.records.Record.{Record}
use Rattle.param_check.specs.CheckFaults.{check_faults}
use Rattle.param_check.specs.declared.check.Rule.{Rule}
use Rattle.param_check.specs.declared.check.TheConstants.{RULES}
use Rattle.param_check.specs.declared.faults.CheckFault.{CheckFault}
use Rattle.param_check.specs.near.NamedRules.{faults_of_rules, rule_faults}
use Rattle.param_check.proofs.check.all_faults.Goals as goal

-- the faults that are reported after one more rule
told_next : (all : List Record) (told now : List CheckFault) (i : ℕ) (d : Rule) → i < length RULES
    → now ≡ told ++ rule_faults all (get_or RULES i d) → told ++ faults_of_rules all (drop i RULES) ≡ check_faults all
    → now ++ faults_of_rules all (drop (i + 1) RULES) ≡ check_faults all
told_next all told now i d lt is was =
    let later = faults_of_rules all (drop (i + 1) RULES) in
    ap (λ faults. faults ++ later) is ∙ append_assoc told (rule_faults all (get_or RULES i d)) later
    ∙ ap (λ rules. told ++ faults_of_rules all rules) (sym (drop_more RULES i d lt)) ∙ was

pub loop-rule-preserved : goal.loop-rule-preserved
loop-rule-preserved c =
    told_next c.args.records.now _ _ c.loop-rule.rule-index _ c.loop-rule-test.true c.in_ok-tell_rule.ensures c.loop-rule.invariant
