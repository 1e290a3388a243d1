use Rattle.std.proofs.Common.{◌+◌, ◌++◌, ◌∷◌, [], ◌∙◌, ap, refl, subst, sym, Global, Vec}
use Rattle.span_tables.specs.Net.{accounts_of}
use Rattle.binding.specs.near.Holdings.{exceeds_anew, fault_of, limit_faults}
use Rattle.binding.proofs.LedgerLaws.{all_seen, seen}
use Rattle.binding.proofs.LimitLaws.{anew_is, limit_faults-none, members_next}
use Rattle.binding.proofs.NumberedUnfit.{exceeds_numbered}
use Rattle.binding.proofs.UnfitWalk.{AreTold, told_end, unfit_more, unfit_skip}
use Rattle.binding.specs.declared.faults.BindFault.{BindFault}
use Rattle.binding.proofs.over_limits.limit_faults.Goals as goal
use Rattle.binding.proofs.over_limits.limit_faults.Goals.{then-branch+in_ok-push, else-branch}

pub returns-then-not-some_exceeds : goal.returns-then-not-some_exceeds
returns-then-not-some_exceeds c =
    c.new-faults.ensures.items
    ∙ sym (limit_faults-none c.args.limit c.args.numbers.now.keys c.args.excesses.now c.args.positions.now
    (sym c.some_exceeds.ensures ∙ c.if-not-some_exceeds.true))

pub loop-number-preserved : goal.loop-number-preserved
loop-number-preserved c =
    let l = c.args.limit in
    let ids = c.args.numbers.now.keys in
    let positions = c.args.positions.now in
    let excesses = c.args.excesses.now in
    let named = c.records-position-items.ensures.value in
    let known = c.records-position-items.ensures.known in
    let lt = c.loop-number-test.true in
    let at = c.position-item.is in
    let here = seen positions _ named known _ _ _ _ _ lt at c.accounts-accounts.ensures.value c.index-accounts-position.is refl in
    let one = exceeds_numbered positions _ named known excesses l ids _ _ lt at in
    let was = c.loop-number.invariant in
    let unfit = exceeds_anew l ids (accounts_of positions) excesses in
    let anew = anew_is l ids (accounts_of positions) excesses positions _ _ _ here _ was.members _ one in
    record {
      members = members_next l ids (accounts_of positions) excesses positions _ _ _ here _ was.members _ one _
          c.in_ok-exceeds_anew.ensures.members;
      so_far = elim c.if-branch.branch [
        | then-branch+in_ok-push w ↦
            unfit_more (fault_of l) unfit positions _ _ _ _ here was.so_far _
            (sym anew ∙ sym c.in_ok-exceeds_anew.ensures.anew ∙ w.if-branch.true)
            (ap (λ (v : Vec BindFault Global). v.items) w.faults-is
            ∙ w.in_ok-push.ensures.items ∙ ap (λ f. c.loop-number.faults.items ++ f ∷ [])
            (w.fault_of.ensures ∙ ap (fault_of l (c.loop-number.number + 1)) w.copied.ensures))
        | else-branch w ↦
            subst (λ (v : Vec BindFault Global). AreTold (fault_of l) unfit positions v.items (c.loop-number.number + 1)) (sym w.faults-is)
            (unfit_skip (fault_of l) unfit positions _ _ _ _ here was.so_far
            (sym anew ∙ sym c.in_ok-exceeds_anew.ensures.anew ∙ w.if-branch.false))
      ];
    }

pub returns : goal.returns
unfolding limit_faults
returns c =
    told_end (fault_of c.args.limit) (exceeds_anew c.args.limit c.args.numbers.now.keys (accounts_of c.args.positions.now)
    c.args.excesses.now) c.args.positions.now _ _
    (all_seen c.args.positions.now _ c.records-position-items.ensures.value c.records-position-items.ensures.known
    _ c.loop-number-test.false) c.loop-number.invariant.so_far
