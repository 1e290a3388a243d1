use Rattle.std.proofs.Common.{◌<◌, ◌^◌, rules}
use Rattle.std.proofs.lemmas.Nat.{and_le_l}
use Rattle.span_money.proofs.BitLemmas.{is_without}
use Rattle.span_money.proofs.bits.without.Goals as goal

pub returns-clause-without : goal.returns-clause-without
returns-clause-without c =
    let fits : c.args.word < 2 ^ 64 = search rules in
    is_without c.args.word c.args.number fits c.requires

pub returns-clause-small : goal.returns-clause-small
returns-clause-small c = and_le_l c.args.word _
