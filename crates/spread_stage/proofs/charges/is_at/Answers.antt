use Rattle.std.proofs.Common.{arith, ap}
use Rattle.std.proofs.lemmas.Bool.Decides.{nat_tests}
use Rattle.std.proofs.lemmas.List.{get_or_default}
use Rattle.spread_stage.proofs.BesideLemmas.{none_at}
use Rattle.spread_stage.specs.declared.months.MonthUnits.{MonthUnits}
use Rattle.spread_stage.proofs.charges.is_at.Goals as goal

pub returns-then-first-months-clause-none : goal.returns-then-first-months-clause-none
returns-then-first-months-clause-none c is =
    none_at c.args.months.now c.requires.rise c.args.first c.args.month c.requires.first
    (λ m lt same. let at = ap (λ (x : MonthUnits). x.month)
    (get_or_default c.args.months.now c.args.first c.index-months-first.result m lt) in
    absurd (grind (arith, nat_tests, is, at, same)))

pub returns-else-first-months-clause-none : goal.returns-else-first-months-clause-none
returns-else-first-months-clause-none c is =
    none_at c.args.months.now c.requires.rise c.args.first c.args.month c.requires.first
    (λ m lt same. absurd (grind (arith, nat_tests, is, lt)))
