use Rattle.std.proofs.Common.{◌≡◌, ℕ, ◌*◌, ◌≤◌, max, refl, sym, ap, ◌∙◌, arith}
use Rattle.std.specs.Prelude.{◌*ℤ◌, pos}
use Rattle.std.specs.Int.{int_max}
use Rattle.std.proofs.lemmas.Int.{clamps, ints}
use Rattle.span_money.specs.LineFields.{Line}
use Rattle.span_tables.specs.declared.limits.TheConstants.{MAX_RATE}
use Rattle.span_tables.specs.declared.records.MinimumMethod.{MinimumMethod}
use Rattle.span_tables.specs.declared.records.MinimumMethod.TheVariants as method
use Rattle.inter_credit.specs.Requirement.{is_call, is_put, short_count}
use Rattle.plan_ir.specs.Figures.{commodity_at, held_at}
use Rattle.reasons.specs.Laws.{counted}
use Rattle.reasons.specs.Lines.{counted_by, number_at, text_at}
use Rattle.reasons.specs.Reasons.{method_word}
use Rattle.reasons.proofs.AcceptedLaws.{shorts_are_small}
use Rattle.reasons.proofs.FieldLaws.{count_read}
use Rattle.reasons.proofs.FigureLaws.{minimum_shown}
use Rattle.reasons.proofs.WordLaws.{the_short}
use Rattle.reasons.proofs.line_laws.minimum_follows_from_the_short_line.Goals as goal

larger : (a b : ℕ) → int_max (pos a) (pos b) ≡ pos (max a b)
larger a b = omega (arith, ints, clamps)

by_word : (m : MinimumMethod) (rate calls puts : ℕ)
    → pos (rate * counted m calls puts) ≡ pos rate *ℤ counted_by (method_word m) (pos calls) (pos puts)
by_word method.Sum rate calls puts = refl
by_word method.Max rate calls puts = ap (λ z. pos rate *ℤ z) (sym (larger calls puts))

pub returns : goal.returns
returns c t holdings n ok lt =
    let commodity = commodity_at t n in
    let held = held_at t holdings n in
    let small : commodity.minimum_rate ≤ MAX_RATE = ok.limits.minimum_rates n _ lt in
    let few = shorts_are_small t holdings ok n in
    let rate = count_read commodity.minimum_rate (omega (arith, small)) in
    let calls = count_read (short_count is_call held) (omega (arith, few)) in
    let puts = count_read (short_count is_put held) (omega (arith, few)) in
    minimum_shown t holdings n
    ∙ by_word commodity.method commodity.minimum_rate (short_count is_call held) (short_count is_put held)
    ∙ (λ i. sym rate i *ℤ counted_by (method_word commodity.method) (sym calls i) (sym puts i))
    ∙ sym (ap (λ (l : Line). number_at 0 l 3 *ℤ counted_by (text_at l 2) (number_at 0 l 0) (number_at 0 l 1)) (the_short t holdings n))
