use Rattle.std.proofs.Common.{◌+◌, ◌-◌, ◌/◌, ◌<◌, ◌∷◌, ◌++◌, [], ap, ◌∙◌, arith}
use Rattle.std.proofs.Math.Nat.{mod-lt}
use Rattle.span_money.specs.ExactDecimals.{fraction_digits}
use Rattle.span_money.proofs.ExactLemmas.{no_more, one_more, power_positive}
use Rattle.span_money.proofs.exact.push_digits.Goals as goal

pub loop-rest-preserved : goal.loop-rest-preserved
loop-rest-preserved c =
    let out = c.loop-rest.out.items in
    let rest = c.loop-rest.rest in
    let some : 0 < rest = omega arith in
    let written = c.in_ok-push.ensures.items ∙ ap (λ one. out ++ (48 + rest / one) ∷ []) c.power-one.ensures.value in
    record {
      few = omega arith;
      below = rw c.power-one.ensures.value (mod-lt rest (power_positive (c.loop-rest.left - 1)));
      to_come = rw c.power-one.ensures.value (one_more out c.push.new.self.items c.args.out.now.items
          (fraction_digits c.args.places c.args.fraction) c.loop-rest.left rest some c.loop-rest.invariant.below
          c.loop-rest.invariant.to_come written);
    }

pub returns : goal.returns
returns c =
    no_more c.loop-rest.out.items c.args.out.now.items (fraction_digits c.args.places c.args.fraction) c.loop-rest.left
    c.loop-rest.rest (omega arith) c.loop-rest.invariant.to_come
