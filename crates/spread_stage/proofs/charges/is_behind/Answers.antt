use Rattle.std.proofs.Common.{arith}
use Rattle.std.proofs.lemmas.Bool.Decides.{nat_tests}
use Rattle.spread_stage.proofs.BesideLemmas.{all_behind}
use Rattle.spread_stage.proofs.charges.is_behind.Goals as goal

pub returns-then-place-months-clause-behind : goal.returns-then-place-months-clause-behind
returns-then-place-months-clause-behind c is =
    all_behind c.args.months.now c.requires c.args.place c.args.month c.index-months-place.result (omega (arith, c.if-place-months.true))
    (λ none. omega (arith, none, c.if-place-eq0.false)) (grind (arith, nat_tests, is))
