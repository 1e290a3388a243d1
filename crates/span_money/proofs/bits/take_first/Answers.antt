use Rattle.std.proofs.Common.{◌<◌, ◌^◌, arith, rules}
use Rattle.span_money.proofs.BitLemmas.{takes_first}
use Rattle.span_money.proofs.bits.take_first.Goals as goal

pub returns-clause-first : goal.returns-clause-first
returns-clause-first c =
    let fits : c.args.word.now < 2 ^ 64 = search rules in
    let some : 0 < c.args.word.now = omega (arith, c.if-word-eq0.false) in
    takes_first c.args.word.now c.without.result fits some c.without.ensures.small c.without.ensures.without
