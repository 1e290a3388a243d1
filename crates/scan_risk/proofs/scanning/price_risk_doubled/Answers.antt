use Rattle.std.proofs.Common.{◌≡◌, ℤ, ◌+ℤ◌, ◌-ℤ◌, ℕ, FitsSigned, w64, rules, arith}
use Rattle.std.proofs.lemmas.Int.{ints, to_z-of_z}
use Rattle.scan_risk.specs.Scenarios.{at_scenario}
use Rattle.scan_risk.proofs.scanning.price_risk_doubled.Goals as goal

-- subtracting two numbers together equals subtracting one after the other
less_both : (a b c : ℤ) → a -ℤ (b +ℤ c) ≡ (a -ℤ b) -ℤ c
less_both a b c = omega (arith, ints)

pub returns-clause-value : goal.returns-clause-value
returns-clause-value c =
    let fits : FitsSigned w64 c.pair_sum.result = search rules in
    let fits2 : FitsSigned w64 c.pair_sum-2.result = search rules in
    let e = simp to_z-of_z at c.excess.ensures.value in
    let at : ℕ → ℤ = at_scenario c.args.sums.now in
    let l = less_both (at c.args.active +ℤ at c.args.paired) (at 1) (at 2) in
    cc
