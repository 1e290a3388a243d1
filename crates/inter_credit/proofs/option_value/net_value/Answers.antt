use Rattle.std.proofs.Common.{◌≡◌, ◌+◌, ◌*◌, ◌≤◌, ◌∙◌, ap, sym, arith, lit<, take, nat_abs, rules, pos, ◌+ℤ◌, ◌*ℤ◌, FitsSigned, to_z, w64}
use Rattle.std.proofs.lemmas.Int.{ints, to_z-of_z}
use Rattle.span_money.proofs.WordLemmas.{same_64}
use Rattle.inter_credit.specs.OptionValue.{net_value_of}
use Rattle.inter_credit.specs.declared.option_value.TheConstants.{MAX_NET_VALUE, MAX_POSITION_VALUE}
use Rattle.inter_credit.proofs.ValueLemmas.{net_value_more}
use Rattle.inter_credit.proofs.option_value.net_value.Goals as goal

pub loop-place-preserved : goal.loop-place-preserved
loop-place-preserved c =
    let held = c.args.held.now in
    let i = c.loop-place.place in
    let before = c.loop-place.invariant in
    let sum = to_z w64 c.loop-place.sum-bits in
    let worth = c.worth-sum.result in
    let more = net_value_more held i c.terms.result.now c.net.result (omega arith) c.terms.ensures.value c.net.ensures.value in
    let fits : FitsSigned w64 c.net.result = search rules in
    let is : worth ≡ c.net.result *ℤ pos c.terms.result.now.option_value =
    c.worth-sum.ensures.value
    ∙ ap (λ n. n *ℤ pos c.terms.result.now.option_value) (to_z-of_z w64 c.net.result fits) in
    let kept = same_64 worth MAX_POSITION_VALUE c.worth-sum.ensures.bound (lit< tt) in
    let size : nat_abs (sum +ℤ worth) ≤ (i + 1) * MAX_POSITION_VALUE =
    omega (arith, ints, before.bound, c.worth-sum.ensures.bound) in
    let small : nat_abs (sum +ℤ worth) ≤ MAX_NET_VALUE = omega (arith, size, c.len-place-end.ensures.kept.few) in
    let all = same_64 (sum +ℤ worth) MAX_NET_VALUE small (lit< tt) in
    record {
      value = rw (kept, all) (ap (λ z. z +ℤ worth) before.value ∙ ap (λ z. net_value_of (take i held) +ℤ z) is ∙ sym more);
      bound = rw (kept, all) size;
    }
