use Rattle.std.proofs.Common.{◌+◌, Bool, true, false, [], ◌∷◌, ◌++◌, Some, None, ap, arith, subst, sym, take, ◌∙◌}
use Rattle.std.specs.Prelude.{if◌then◌else◌}
use Rattle.std.proofs.lemmas.List.{append-nil, take_more}
use Rattle.param_check.specs.near.NamedRules.{IsSeen, breaks_of, fault_of, rule_fault}
use Rattle.param_check.specs.near.Overlaps.{months_in}
use Rattle.binding.proofs.AllFaults.{told_next}
use Rattle.param_check.proofs.check.tell_rule.Goals.{then-branch+in_ok-push, else-branch}
use Rattle.param_check.proofs.check.tell_rule.Goals as goal

pub loop-index-preserved : goal.loop-index-preserved
loop-index-preserved c =
    let rule = c.args.rule in
    let all = c.args.records.now in
    let i = c.loop-index.index in
    let told = c.loop-index.faults.items in
    let is = c.index-records-index.is in
    let judged = c.in_ok-breaks.ensures all (take i all) c.loop-index.invariant.seen in
    let fault = λ (b : Bool). if b then Some (fault_of rule) else None in
    let fault_is = ap fault (ap (breaks_of rule all (take i all)) (sym is) ∙ sym judged.0) in
    let next = told_next (rule_fault all rule) all told _ _ i c.index-records-index.result (omega arith) in
    record {
      seen = subst (λ xs. IsSeen rule all xs c.breaks.new.keys.keys (months_in c.breaks.new.tiers))
          (ap (λ y. take i all ++ y ∷ []) is ∙ sym (take_more all i _ (omega arith))) judged.1;
      told = elim c.if-branch.branch [
        | then-branch+in_ok-push w ↦ next (fault true) (fault_is ∙ ap fault w.if-branch.true)
            (ap (λ v. v.items) w.faults-is ∙ w.in_ok-push.ensures.items ∙ ap (λ f. told ++ f ∷ []) w.fault_of.ensures)
            c.loop-index.invariant.told
        | else-branch w ↦ next (fault false) (fault_is ∙ ap fault w.if-branch.false)
            (ap (λ v. v.items) w.faults-is ∙ sym (append-nil told)) c.loop-index.invariant.told
      ];
    }
