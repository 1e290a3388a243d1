use Rattle.std.proofs.Common.{◌≡◌, ◌++◌, ◌^◌, ◌<◌, ◌≤◌}
use Rattle.span_money.specs.ExactDecimals.{fraction_digits}
use Rattle.span_money.proofs.exact.push_digits.Given as goal

abbrev pub invariant-loop-rest : goal.invariant-loop-rest
invariant-loop-rest l = record {
  few : l.left ≤ 18;
  below : l.rest < 10 ^ l.left;
  to_come : l.out.items ++ fraction_digits l.left l.rest ≡ l.fn.out.items ++ fraction_digits l.fn.places l.fn.fraction;
}

abbrev pub decreases-loop-rest : goal.decreases-loop-rest
decreases-loop-rest l = l.left
