use Rattle.std.proofs.Common.{◌≡◌, ◌^◌, ◌≤◌, length, rules, arith}
use Rattle.std.proofs.lemmas.Bool.Decides.{nat_tests}
use Rattle.std.proofs.lemmas.List.Folds.{list_all_at}
use Rattle.std.specs.Char.{is_ascii_digit}
use Rattle.std.proofs.Math.Nat.{pow-le-pow_right}
use Rattle.span_money.proofs.DigitLemmas.{power_small}
use Rattle.span_money.proofs.texts.parse_digits.Goals as goal

pub returns-then-not-is_ascii_digit : goal.returns-then-not-is_ascii_digit
returns-then-not-is_ascii_digit c =
    rw (list_all_at is_ascii_digit c.args.text.now c.loop-byte.byte-index 0 (omega arith) (search rules)) (grind (arith, nat_tests))

pub overflow_mul-n : goal.overflow_mul-n
overflow_mul-n c = omega (arith, power_small c.loop-byte.byte-index (omega arith))

pub overflow_add-n : goal.overflow_add-n
overflow_add-n c = omega (arith, power_small c.loop-byte.byte-index (omega arith))

pub returns-clause-small : goal.returns-clause-small
returns-clause-small c =
    let wide : 10 ^ c.loop-byte.byte-index ≤ 10 ^ c.args.most = pow-le-pow_right (omega arith) (omega arith) in
    omega arith

pub returns-clause-below : goal.returns-clause-below
returns-clause-below c = let all : c.loop-byte.byte-index ≡ length c.args.text.now = omega arith in rw all at c.loop-byte.invariant.small
