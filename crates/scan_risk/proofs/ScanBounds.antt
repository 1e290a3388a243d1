-- Bounds on the sizes of scenario sums, and of their scan.
use Rattle.std.proofs.Common.{ℕ, ◌*◌, ◌≤◌, List, length, get_or, refl, ap, arith, inl, inr}
use Rattle.std.specs.Prelude.{ℤ, pos, negsuc, ◌+ℤ◌, ◌-ℤ◌, ◌*ℤ◌, All, nat_abs}
use Rattle.std.proofs.Math.Nat.{mul-le-mul_right}
use Rattle.std.proofs.lemmas.Int.{ints, fold-int_max_reached}
use Rattle.std.proofs.lemmas.List.Elements.{All-map}
use Rattle.std.specs.List.{range_with_len}
use Rattle.span_money.specs.Numbers.{positive_part}
use Rattle.span_tables.specs.Holdings.{AreHeld}
use Rattle.span_tables.specs.Net.{HeldContract}
use Rattle.span_tables.specs.declared.limits.TheConstants.{MAX_ARRAY_VALUE, MAX_HELD, MAX_PRICE2, MAX_SUM, MAX_TERM}
use Rattle.span_tables.proofs.HeldBounds.{int_sum_size}
use Rattle.scan_risk.specs.Scenarios.{active_scenario, at_scenario, paired_scenario, scan_of, scan_risk, scenario_sum, scenario_sums}
use Rattle.scan_risk.proofs.SumLemmas.{at_most, term_size}

-- a scenario's sum over held contracts
sum_small : (held : List HeldContract) (s : ℕ) → AreHeld held → nat_abs (scenario_sum held s) ≤ MAX_SUM
sum_small held s are =
    let terms : All (λ (h : HeldContract). nat_abs (h.net *ℤ at_scenario h.contract.values s) ≤ MAX_TERM) held =
    (λ k d lt. term_size (get_or held k d).net (at_scenario (get_or held k d).contract.values s) (are.nets k d lt)
    (at_most (get_or held k d).contract.values MAX_ARRAY_VALUE (are.contracts k d lt).values _)) in
    let all = int_sum_size (λ (h : HeldContract). h.net *ℤ at_scenario h.contract.values s) MAX_TERM held terms in
    let few : length held * MAX_TERM ≤ MAX_HELD * MAX_TERM = mul-le-mul_right MAX_TERM are.few in
    omega (arith, all, few)

-- the sums of the scenarios over held contracts
pub sums_small : (held : List HeldContract) → AreHeld held → All (λ s. nat_abs s ≤ MAX_SUM) (scenario_sums held)
unfolding scenario_sums
sums_small held are =
    All-map (λ s. nat_abs s ≤ MAX_SUM) (scenario_sum held) (range_with_len 1 16)
    (λ k d lt. sum_small held (get_or (range_with_len 1 16) k d) are)

-- the largest of sums, or 0
largest_small : (sums : List ℤ) → All (λ s. nat_abs s ≤ MAX_SUM) sums → nat_abs (scan_risk sums) ≤ MAX_SUM
largest_small sums small =
    elim (fold-int_max_reached (pos 0) sums (scan_risk sums) refl) [
      | inl e ↦ let size = ap nat_abs e in omega (arith, size)
      | inr c ↦
          let size = ap nat_abs c.2 in
          let all = small c.0 (scan_risk sums) c.1 in
          omega (arith, size, all)
    ]

-- scan risk
pub risk_small : (sums : List ℤ) → All (λ s. nat_abs s ≤ MAX_SUM) sums → nat_abs (scan_of sums).risk ≤ MAX_SUM
unfolding scan_of
risk_small sums small = largest_small sums small

-- the size of two numbers less two others is at most four times their bound
part_size : (a b c d : ℤ) (m : ℕ) → nat_abs a ≤ m → nat_abs b ≤ m → nat_abs c ≤ m → nat_abs d ≤ m
    → nat_abs (((a +ℤ b) -ℤ c) -ℤ d) ≤ 4 * m
part_size a b c d m x y z w = omega (arith, ints, x, y, z, w)

positive_part-le : (z : ℤ) → positive_part z ≤ nat_abs z
positive_part-le (pos n) = omega arith
positive_part-le (negsuc n) = omega arith

-- twice the price risk
pub price2_small : (sums : List ℤ) → All (λ s. nat_abs s ≤ MAX_SUM) sums → (scan_of sums).price2 ≤ MAX_PRICE2
unfolding scan_of
price2_small sums small =
    let sum : ℕ → ℤ = at_scenario sums in
    let active = active_scenario sums in
    let paired = paired_scenario active in
    let at : (s : ℕ) → nat_abs (sum s) ≤ MAX_SUM = λ s. at_most sums MAX_SUM small _ in
    let all = part_size (sum active) (sum paired) (sum 1) (sum 2) MAX_SUM (at active) (at paired) (at 1) (at 2) in
    let part = positive_part-le (((sum active +ℤ sum paired) -ℤ sum 1) -ℤ sum 2) in
    omega (arith, all, part)
