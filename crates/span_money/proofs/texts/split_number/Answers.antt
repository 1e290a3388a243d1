use Rattle.std.proofs.Common.{◌^◌, ◌≤◌, arith}
use Rattle.std.proofs.Math.Nat.{pow-le-pow_right}
use Rattle.span_money.proofs.DigitLemmas.{power_small}
use Rattle.span_money.proofs.texts.split_number.Goals as goal

pub overflow_mul-n : goal.overflow_mul-n
overflow_mul-n c =
    let i = c.loop-len.invariant in
    let less : c.loop-len.len ≤ 17 = omega (arith, c.loop-len-test.true, i.few) in
    omega (arith, i.small, power_small c.loop-len.len less)

pub overflow_add-n : goal.overflow_add-n
overflow_add-n c =
    let i = c.loop-len.invariant in
    let less : c.loop-len.len ≤ 17 = omega (arith, c.loop-len-test.true, i.few) in
    omega (arith, i.small, power_small c.loop-len.len less)

pub returns-clause-small : goal.returns-clause-small
returns-clause-small c =
    let i = c.loop-len.invariant in
    let few : c.loop-len.len ≤ 18 = omega (arith, i.within, i.few) in
    let wide : 10 ^ c.loop-len.len ≤ 10 ^ 18 = pow-le-pow_right (omega arith) few in
    omega (arith, i.small, wide)
