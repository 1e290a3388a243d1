use Rattle.std.proofs.Common.{◌≡◌, ℕ, ◌*◌, ◌/◌, ◌^◌, ◌<◌, Bool, true, false, cond, get_or, refl, sym, ap, ◌∙◌, arith, subst}
use Rattle.std.specs.Prelude.{All, ◌*ℤ◌, ◌<ℤ◌, ◌==◌, nat_abs, pos}
use Rattle.std.proofs.Math.Nat.{mul-div-mul_right}
use Rattle.std.proofs.lemmas.Int.{ints}
use Rattle.std.proofs.lemmas.List.Elements.{All-map}
use Rattle.span_money.specs.ExactDecimals.{exact_value}
use Rattle.span_money.specs.LineFields.{Line}
use Rattle.span_money.specs.Numbers.{int_sum_by}
use Rattle.span_money.proofs.ExactLaws.{exact_read_back}
use Rattle.inter_credit.specs.Credits.{credit_of}
use Rattle.inter_credit.specs.declared.commodity_state.CommodityState.{CommodityState}
use Rattle.reasons.specs.Lines.{credit_from, number_at}
use Rattle.reasons.specs.Reasons.{half, inter_reason, inters_shown_at, month_reason, months_shown_at, state_after_all}
use Rattle.reasons.specs.Shown.{weight_of}
use Rattle.reasons.proofs.AcceptedLaws.{inters_are_small, months_are_small, state_is}
use Rattle.reasons.proofs.CreditLaws.{net_shown, price2_shown, weight_shown}
use Rattle.reasons.proofs.FieldLaws.{count_read, sum_of_counts, sum_read}
use Rattle.reasons.proofs.FigureLaws.{credit_shown}
use Rattle.reasons.proofs.WordLaws.{inter_lines, month_lines, the_credit, the_scan}
use Rattle.reasons.proofs.line_laws.credit_follows_from_the_lines.Goals as goal

pub returns-clause-price_risk : goal.returns-clause-price_risk
returns-clause-price_risk c t holdings n ok lt =
    ap (λ (l : Line). number_at 1 l 0) (the_credit t holdings n)
    ∙ ap (λ p. exact_value 1 (half p)) (price2_shown t holdings n lt)
    ∙ sym (ap (λ (l : Line). number_at 1 l 3) (the_scan t holdings n))

pub returns-clause-net : goal.returns-clause-net
returns-clause-net c t holdings n ok lt =
    let months = months_shown_at t holdings n in
    let is = state_is t holdings ok n in
    ap (λ (l : Line). number_at 8 l 1) (the_credit t holdings n)
    ∙ exact_read_back 8 (state_after_all t holdings n).net (omega (arith, is.net))
    ∙ net_shown t holdings n lt
    ∙ sym (ap (int_sum_by (λ l. number_at 8 l 1)) (month_lines t holdings n)
    ∙ sum_read month_reason (λ l. number_at 8 l 1) (λ m. m.delta) months
    (λ k d in_months. let few = (months_are_small t holdings ok n k d in_months).delta in
    exact_read_back 8 (get_or months k d).delta (omega (arith, few))))

pub returns-clause-weight : goal.returns-clause-weight
returns-clause-weight c t holdings n ok lt =
    let inters = inters_shown_at t holdings n in
    let is = state_is t holdings ok n in
    ap (λ (l : Line). number_at 8 l 2) (the_credit t holdings n)
    ∙ exact_read_back 8 (pos (state_after_all t holdings n).weight) (omega (arith, is.weight, is.net))
    ∙ ap pos (weight_shown t holdings n ok.limits lt)
    ∙ sym (ap (int_sum_by (λ l. number_at 8 l 3 *ℤ number_at 0 l 4)) (inter_lines t holdings n)
    ∙ sum_read inter_reason (λ l. number_at 8 l 3 *ℤ number_at 0 l 4) (λ s. pos (weight_of s)) inters
    (λ k d in_inters. let s = get_or inters k d in
    let small = inters_are_small t holdings ok n k d in_inters in
    λ i. exact_read_back 8 (pos s.used) (omega (arith, small.used)) i *ℤ count_read s.basis_points (omega (arith, small.basis_points)) i)
    ∙ sum_of_counts weight_of inters)

-- a quotient computed from a doubled price risk equals the one computed from tenths
in_tenths : (p w n : ℕ) → (p * w) / (2 * 10 ^ 4 * n) ≡ ((p * 5) * w) / (10 * 10 ^ 4 * n)
in_tenths p w n =
    let five : 0 < 5 = omega arith in
    let above : (p * 5) * w ≡ (p * w) * 5 = omega arith in
    let below : 10 * 10 ^ 4 * n ≡ (2 * 10 ^ 4 * n) * 5 = omega arith in
    sym (mul-div-mul_right {m = 5} (p * w) (2 * 10 ^ 4 * n) five) ∙ (λ k. sym above k / sym below k)

credit_if : (b : Bool) (p w n : ℕ)
    → pos (cond b 0 ((p * w) / (2 * 10 ^ 4 * n))) ≡ cond b (pos 0) (pos (((p * 5) * w) / (10 * 10 ^ 4 * n)))
credit_if true p w n = refl
credit_if false p w n = ap pos (in_tenths p w n)

credit_in_tenths : (state : CommodityState) → pos (credit_of state) ≡ credit_from (pos (state.price2 * 5)) state.net (pos state.weight)
unfolding credit_of
credit_in_tenths state = credit_if (nat_abs state.net == 0) state.price2 state.weight (nat_abs state.net)

pub returns-clause-credit : goal.returns-clause-credit
returns-clause-credit c t holdings n ok =
    let state = state_after_all t holdings n in
    let is = state_is t holdings ok n in
    let price_risk = exact_read_back 1 (pos (state.price2 * 5)) (omega (arith, is.price2)) in
    let net = exact_read_back 8 state.net (omega (arith, is.net)) in
    let weight = exact_read_back 8 (pos state.weight) (omega (arith, is.weight, is.net)) in
    credit_shown t holdings n ∙ credit_in_tenths state
    ∙ (λ i. credit_from (sym price_risk i) (sym net i) (sym weight i))
    ∙ sym (ap (λ (l : Line). credit_from (number_at 1 l 0) (number_at 8 l 1) (number_at 8 l 2)) (the_credit t holdings n))

pub returns-clause-some : goal.returns-clause-some
returns-clause-some c t holdings n ok =
    let inters = inters_shown_at t holdings n in
    let Is : Line → Type 0 = λ l. pos 0 <ℤ number_at 4 l 2 in
    subst (All Is) (sym (inter_lines t holdings n))
    (All-map Is inter_reason inters
    (λ k d lt. let s = get_or inters k d in
    let small = inters_are_small t holdings ok n k d lt in
    let above : pos 0 <ℤ pos s.formed = omega (arith, ints, small.some) in
    subst (λ z. pos 0 <ℤ z) (sym (exact_read_back 4 (pos s.formed) (omega (arith, small.formed)))) above))
