use Rattle.std.proofs.Common.{◌≡◌, ℕ, ◌*◌, ◌≤◌, List, map, ap, sym, ◌∙◌, arith}
use Rattle.std.specs.Prelude.{pos, nat_abs}
use Rattle.span_money.specs.ExactDecimals.{exact_value}
use Rattle.span_money.specs.LineFields.{Line}
use Rattle.span_money.proofs.ExactLaws.{exact_read_back}
use Rattle.span_tables.specs.Tables.{AcceptedTables}
use Rattle.span_tables.specs.declared.limits.TheConstants.{MAX_PRICE2, MAX_SUM}
use Rattle.span_tables.specs.declared.portfolios.Holding.{Holding}
use Rattle.scan_risk.specs.Scenarios.{active_scenario, paired_scenario, price2, scan_of, scan_risk, scenario_sums}
use Rattle.scan_risk.proofs.ScanBounds.{price2_small, risk_small}
use Rattle.plan_ir.specs.Figures.{held_at}
use Rattle.reasons.specs.Laws.{AreAccepted}
use Rattle.reasons.specs.Lines.{number_at, sums_by_lines}
use Rattle.reasons.specs.Reasons.{reasons_of}
use Rattle.reasons.proofs.AcceptedLaws.{active_few, paired_few, sums_are_small}
use Rattle.reasons.proofs.FieldLaws.{count_read, whole_read, wholes_read}
use Rattle.reasons.proofs.FigureLaws.{active_shown, risk_shown}
use Rattle.reasons.proofs.WordLaws.{the_scan, the_sums}
use Rattle.reasons.proofs.line_laws.scan_follows_from_the_sums_line.Goals as goal
use Rattle.scan_risk.proofs.SumLemmas.{sixteen_sums}

-- the fields of the SUMS line are read as the scenario sums
sums_are : (t : AcceptedTables) (holdings : List Holding) (n : ℕ) → AreAccepted t holdings
    → sums_by_lines (reasons_of t holdings n) ≡ scenario_sums (held_at t holdings n)
sums_are t holdings n ok =
    ap (λ (l : Line). map (exact_value 0) l.fields) (the_sums t holdings n)
    ∙ wholes_read (scenario_sums (held_at t holdings n)) (λ k d lt. let few = sums_are_small t holdings ok n k d lt in omega (arith, few))

pub returns-clause-sums : goal.returns-clause-sums
returns-clause-sums c = sums_are

pub returns-clause-risk : goal.returns-clause-risk
returns-clause-risk c t holdings n ok = risk_shown t holdings n ∙ ap scan_risk (sym (sums_are t holdings n ok))

pub returns-clause-active : goal.returns-clause-active
returns-clause-active c t holdings n ok = active_shown t holdings n ∙ ap active_scenario (sym (sums_are t holdings n ok))

pub returns-clause-risk_told : goal.returns-clause-risk_told
unfolding scan_of
returns-clause-risk_told c t holdings n ok =
    let sums = scenario_sums (held_at t holdings n) in
    let few : nat_abs (scan_risk sums) ≤ MAX_SUM = risk_small sums (sums_are_small t holdings ok n) in
    ap (λ (l : Line). number_at 0 l 0) (the_scan t holdings n) ∙ whole_read (scan_risk sums) (omega (arith, few))
    ∙ ap scan_risk (sym (sums_are t holdings n ok))

pub returns-clause-active_told : goal.returns-clause-active_told
unfolding scan_of
returns-clause-active_told c t holdings n ok =
    let sums = scenario_sums (held_at t holdings n) in
    let few : active_scenario sums ≤ 17 = omega (arith, active_few sums, sixteen_sums (held_at t holdings n)) in
    ap (λ (l : Line). number_at 0 l 1) (the_scan t holdings n) ∙ count_read (active_scenario sums) (omega (arith, few))
    ∙ ap (λ ss. pos (active_scenario ss)) (sym (sums_are t holdings n ok))

pub returns-clause-paired_told : goal.returns-clause-paired_told
unfolding scan_of
returns-clause-paired_told c t holdings n ok =
    let sums = scenario_sums (held_at t holdings n) in
    let few : active_scenario sums ≤ 17 = omega (arith, active_few sums, sixteen_sums (held_at t holdings n)) in
    let beside : paired_scenario (active_scenario sums) ≤ 18 = omega (arith, few, paired_few (active_scenario sums)) in
    ap (λ (l : Line). number_at 0 l 2) (the_scan t holdings n)
    ∙ count_read (paired_scenario (active_scenario sums)) (omega (arith, beside))
    ∙ ap (λ ss. pos (paired_scenario (active_scenario ss))) (sym (sums_are t holdings n ok))

pub returns-clause-price_risk_told : goal.returns-clause-price_risk_told
unfolding scan_of
returns-clause-price_risk_told c t holdings n ok =
    let sums = scenario_sums (held_at t holdings n) in
    let few : price2 sums ≤ MAX_PRICE2 = price2_small sums (sums_are_small t holdings ok n) in
    ap (λ (l : Line). number_at 1 l 3) (the_scan t holdings n) ∙ exact_read_back 1 (pos (price2 sums * 5)) (omega (arith, few))
    ∙ ap (λ ss. pos (price2 ss * 5)) (sym (sums_are t holdings n ok))
