use Rattle.std.proofs.Common.{◌≡◌, ℕ, ◌<◌, List, length, map, get_or, refl, sym, ap, ◌∙◌, arith}
use Rattle.std.specs.Prelude.{ℤ, pos}
use Rattle.std.specs.Fmt.{decimal}
use Rattle.std.proofs.lemmas.List.{get_or-map, get_or_default, length-map, same_lists}
use Rattle.span_money.specs.LineFields.{Line}
use Rattle.span_money.proofs.ExactLaws.{exact_read_back}
use Rattle.spread_stage.specs.Deltas.{month_delta, month_deltas, months_of, units_at}
use Rattle.spread_stage.specs.Months.{MonthsRise, Shrinks}
use Rattle.spread_stage.specs.declared.months.MonthUnits.{MonthUnits}
use Rattle.spread_stage.proofs.BesideLemmas.{length-rests, units_at-beside}
use Rattle.spread_stage.proofs.FallLemmas.{spreads_shrink}
use Rattle.plan_ir.specs.Figures.{deltas_at, held_at, intras_at, tiers_at}
use Rattle.plan_ir.proofs.FigureBounds.{deltas_at_are}
use Rattle.reasons.specs.Lines.{number_at, text_at}
use Rattle.reasons.specs.Reasons.{month_reason, months_shown_at}
use Rattle.reasons.specs.declared.shown.ShownMonth.{ShownMonth}
use Rattle.reasons.proofs.AcceptedLaws.{months_are_small}
use Rattle.reasons.proofs.FieldLaws.{each_read}
use Rattle.reasons.proofs.WordLaws.{month_lines}
use Rattle.reasons.proofs.line_laws.month_lines_have_each_held_month.Goals as goal

pub returns-clause-months : goal.returns-clause-months
unfolding month_deltas
returns-clause-months c t holdings n =
    let rests = (tiers_at t holdings n).rests in
    let held = held_at t holdings n in
    let shown : MonthUnits → ShownMonth = λ m. record { month = m.month; delta = m.units; left = units_at rests m.month } in
    let with_delta : ℕ → MonthUnits = λ p. record { month = p; units = month_delta held p } in
    ap (map (λ (l : Line). text_at l 0)) (month_lines t holdings n)
    ∙ each_read month_reason (λ l. text_at l 0) (λ m. decimal m.month) (months_shown_at t holdings n) (λ k d lt. refl)
    ∙ each_read shown (λ m. decimal m.month) (λ m. decimal m.month) (deltas_at t holdings n) (λ k d lt. refl)
    ∙ each_read with_delta (λ (m : MonthUnits). decimal m.month) decimal (months_of held) (λ k d lt. refl)

pub returns-clause-deltas : goal.returns-clause-deltas
returns-clause-deltas c t holdings n ok =
    let rests = (tiers_at t holdings n).rests in
    let months = months_shown_at t holdings n in
    let shown : MonthUnits → ShownMonth = λ m. record { month = m.month; delta = m.units; left = units_at rests m.month } in
    ap (map (λ (l : Line). number_at 8 l 1)) (month_lines t holdings n)
    ∙ each_read month_reason (λ l. number_at 8 l 1) (λ m. m.delta) months
    (λ k d lt. let few = (months_are_small t holdings ok n k d lt).delta in
    exact_read_back 8 (get_or months k d).delta (omega (arith, few)))
    ∙ each_read shown (λ m. m.delta) (λ m. m.units) (deltas_at t holdings n) (λ k d lt. refl)

-- what is left of each month has the same index as its delta
lefts : (deltas rests : List MonthUnits) → MonthsRise deltas → Shrinks deltas rests
    → map (λ m. units_at rests m.month) deltas ≡ map (λ m. m.units) rests
lefts deltas rests rise shrinks =
    let left : MonthUnits → ℤ = λ m. units_at rests m.month in
    let units : MonthUnits → ℤ = λ m. m.units in
    let none : MonthUnits = record { month = 0; units = pos 0 } in
    let long = length-rests deltas rests shrinks in
    same_lists (map left deltas) (map units rests) (length-map deltas left ∙ sym long ∙ sym (length-map rests units))
    (λ k d lt.
    let inside : k < length deltas = omega (arith, lt, length-map deltas left) in
    let beside : k < length rests = omega (arith, inside, long) in
    let m = get_or deltas k none in
    let r = get_or rests k none in
    get_or-map left deltas k none d inside
    ∙ units_at-beside deltas rests rise shrinks k m r inside (get_or_default deltas k none m inside)
    (get_or_default rests k none r beside)
    ∙ sym (get_or-map units rests k none d beside))

pub returns-clause-left : goal.returns-clause-left
returns-clause-left c t holdings n ok =
    let deltas = deltas_at t holdings n in
    let rests = (tiers_at t holdings n).rests in
    let months = months_shown_at t holdings n in
    let shown : MonthUnits → ShownMonth = λ m. record { month = m.month; delta = m.units; left = units_at rests m.month } in
    ap (map (λ (l : Line). number_at 8 l 2)) (month_lines t holdings n)
    ∙ each_read month_reason (λ l. number_at 8 l 2) (λ m. m.left) months
    (λ k d lt. let few = (months_are_small t holdings ok n k d lt).left in
    exact_read_back 8 (get_or months k d).left (omega (arith, few)))
    ∙ each_read shown (λ m. m.left) (λ m. units_at rests m.month) deltas (λ k d lt. refl)
    ∙ lefts deltas rests (deltas_at_are t holdings ok.limits ok.portfolio ok.known n).rise (spreads_shrink (intras_at t n) deltas)
