use Rattle.std.proofs.Common.{◌≡◌, ◌*◌, ◌^◌, ◌<◌, ◌≤◌, get_or, sym, ap, ◌∙◌, arith, subst}
use Rattle.std.specs.Prelude.{All, ◌*ℤ◌, ◌+ℤ◌, pos}
use Rattle.std.specs.Int.{div_ceil}
use Rattle.std.proofs.Math.Nat.{mul-le-mul}
use Rattle.std.proofs.lemmas.List.Elements.{All-map}
use Rattle.span_money.specs.LineFields.{Line}
use Rattle.span_money.specs.Numbers.{int_sum_by, positive_part}
use Rattle.span_money.proofs.ExactLaws.{exact_read_back}
use Rattle.span_tables.specs.declared.limits.TheConstants.{MAX_RATE, MAX_UNITS}
use Rattle.reasons.specs.Lines.{number_at, spot_charge_told}
use Rattle.reasons.specs.Reasons.{spot_reason, spots_shown_at}
use Rattle.reasons.specs.Shown.{shown_spot_charge}
use Rattle.reasons.specs.declared.shown.ShownSpot.{ShownSpot}
use Rattle.reasons.proofs.AcceptedLaws.{spots_are_small}
use Rattle.reasons.proofs.ChargeLaws.{delivery_shown}
use Rattle.reasons.proofs.FieldLaws.{count_read, sum_of_counts, sum_read}
use Rattle.reasons.proofs.SmallLaws.{IsSmallSpot}
use Rattle.reasons.proofs.WordLaws.{spot_lines}
use Rattle.reasons.proofs.line_laws.delivery_charge_follows_from_the_spot_lines.Goals as goal

charge_few : (s : ShownSpot) → IsSmallSpot s → shown_spot_charge s < 10 ^ 64
charge_few s is =
    let used : s.used * s.spread_rate ≤ MAX_UNITS * MAX_RATE = mul-le-mul is.used is.spread_rate in
    let left : s.left * s.outright_rate ≤ MAX_UNITS * MAX_RATE = mul-le-mul is.left is.outright_rate in
    omega (arith, used, left)

pub returns-clause-charge : goal.returns-clause-charge
returns-clause-charge c t holdings n ok =
    let spots = spots_shown_at t holdings n in
    delivery_shown t holdings n
    ∙ ap (λ s. pos (div_ceil (positive_part s) (10 ^ 8)))
    (sym (ap (int_sum_by spot_charge_told) (spot_lines t holdings n)
    ∙ sum_read spot_reason spot_charge_told (λ s. pos (shown_spot_charge s)) spots
    (λ k d lt. exact_read_back 8 (pos (shown_spot_charge (get_or spots k d)))
    (charge_few (get_or spots k d) (spots_are_small t holdings ok n k d lt)))
    ∙ sum_of_counts shown_spot_charge spots))

pub returns-clause-each : goal.returns-clause-each
returns-clause-each c t holdings n ok =
    let spots = spots_shown_at t holdings n in
    let Is : Line → Type 0 = λ l. number_at 8 l 5 ≡ (number_at 8 l 1 *ℤ number_at 0 l 2) +ℤ (number_at 8 l 3 *ℤ number_at 0 l 4) in
    subst (All Is) (sym (spot_lines t holdings n))
    (All-map Is spot_reason spots
    (λ k d lt. let s = get_or spots k d in
    let small = spots_are_small t holdings ok n k d lt in
    let used = exact_read_back 8 (pos s.used) (omega (arith, small.used)) in
    let left = exact_read_back 8 (pos s.left) (omega (arith, small.left)) in
    let spread_rate = count_read s.spread_rate (omega (arith, small.spread_rate)) in
    let outright_rate = count_read s.outright_rate (omega (arith, small.outright_rate)) in
    exact_read_back 8 (pos (shown_spot_charge s)) (charge_few s small)
    ∙ (λ i. (sym used i *ℤ sym spread_rate i) +ℤ (sym left i *ℤ sym outright_rate i))))
