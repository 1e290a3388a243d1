use Rattle.std.proofs.Common.{◌≡◌, ◌*◌, ◌^◌, ◌<◌, ◌≤◌, get_or, sym, ap, ◌∙◌, arith, subst}
use Rattle.std.specs.Prelude.{All, ◌*ℤ◌, ◌<ℤ◌, pos}
use Rattle.std.specs.Int.{div_ceil}
use Rattle.std.proofs.Math.Nat.{mul-le-mul}
use Rattle.std.proofs.lemmas.Int.{ints}
use Rattle.std.proofs.lemmas.List.Elements.{All-map}
use Rattle.span_money.specs.LineFields.{Line}
use Rattle.span_money.specs.Numbers.{int_sum_by, positive_part}
use Rattle.span_money.proofs.ExactLaws.{exact_read_back}
use Rattle.span_tables.specs.declared.limits.TheConstants.{MAX_RATE, MAX_UNITS}
use Rattle.reasons.specs.Lines.{intra_charge_told, number_at}
use Rattle.reasons.specs.Reasons.{intra_reason, intras_shown_at}
use Rattle.reasons.specs.Shown.{shown_intra_charge}
use Rattle.reasons.specs.declared.shown.ShownIntra.{ShownIntra}
use Rattle.reasons.proofs.AcceptedLaws.{intras_are_small}
use Rattle.reasons.proofs.ChargeLaws.{intra_shown}
use Rattle.reasons.proofs.FieldLaws.{count_read, sum_of_counts, sum_read}
use Rattle.reasons.proofs.SmallLaws.{IsSmallIntra}
use Rattle.reasons.proofs.WordLaws.{intra_lines}
use Rattle.reasons.proofs.line_laws.intracommodity_charge_follows_from_the_intra_lines.Goals as goal

charge_few : (s : ShownIntra) → IsSmallIntra s → shown_intra_charge s < 10 ^ 64
charge_few s is =
    let most : s.formed * s.rate ≤ MAX_UNITS * MAX_RATE = mul-le-mul is.formed is.rate in omega (arith, most)

pub returns-clause-charge : goal.returns-clause-charge
returns-clause-charge c t holdings n ok =
    let intras = intras_shown_at t holdings n in
    intra_shown t holdings n
    ∙ ap (λ s. pos (div_ceil (positive_part s) (10 ^ 4)))
    (sym (ap (int_sum_by intra_charge_told) (intra_lines t holdings n)
    ∙ sum_read intra_reason intra_charge_told (λ s. pos (shown_intra_charge s)) intras
    (λ k d lt. exact_read_back 4 (pos (shown_intra_charge (get_or intras k d)))
    (charge_few (get_or intras k d) (intras_are_small t holdings ok n k d lt)))
    ∙ sum_of_counts shown_intra_charge intras))

pub returns-clause-each : goal.returns-clause-each
returns-clause-each c t holdings n ok =
    let intras = intras_shown_at t holdings n in
    let Is : Line → Type 0 = λ l. number_at 4 l 4 ≡ number_at 4 l 2 *ℤ number_at 0 l 3 in
    subst (All Is) (sym (intra_lines t holdings n))
    (All-map Is intra_reason intras
    (λ k d lt. let s = get_or intras k d in
    let small = intras_are_small t holdings ok n k d lt in
    exact_read_back 4 (pos (shown_intra_charge s)) (charge_few s small)
    ∙ (λ i. sym (exact_read_back 4 (pos s.formed) (omega (arith, small.formed))) i
    *ℤ sym (count_read s.rate (omega (arith, small.rate))) i)))

pub returns-clause-some : goal.returns-clause-some
returns-clause-some c t holdings n ok =
    let intras = intras_shown_at t holdings n in
    let Is : Line → Type 0 = λ l. pos 0 <ℤ number_at 4 l 2 in
    subst (All Is) (sym (intra_lines t holdings n))
    (All-map Is intra_reason intras
    (λ k d lt. let s = get_or intras k d in
    let small = intras_are_small t holdings ok n k d lt in
    let above : pos 0 <ℤ pos s.formed = omega (arith, ints, small.some) in
    subst (λ z. pos 0 <ℤ z) (sym (exact_read_back 4 (pos s.formed) (omega (arith, small.formed)))) above))
