use Rattle.std.proofs.Common.{◌≡◌, Bool, filter, get_or, sym, ap, ◌∙◌, arith}
use Rattle.std.specs.Prelude.{All, List, ℕ, ℤ, bytes_eq, codes, map, pos}
use Rattle.std.proofs.lemmas.List.Elements.{All-filter}
use Rattle.span_money.specs.LineFields.{Line}
use Rattle.span_money.specs.Numbers.{int_sum_by, negative_part}
use Rattle.span_tables.specs.Net.{HeldContract}
use Rattle.span_tables.specs.Tables.{AcceptedTables}
use Rattle.span_tables.specs.declared.portfolios.Holding.{Holding}
use Rattle.span_tables.specs.declared.records.ProductKind.{ProductKind}
use Rattle.inter_credit.specs.Requirement.{is_call, is_put, short_count}
use Rattle.plan_ir.specs.Figures.{held_at}
use Rattle.reasons.specs.Laws.{AreAccepted}
use Rattle.reasons.specs.Lines.{number_at, short_by_lines, text_at}
use Rattle.reasons.specs.Reasons.{held_reason, kind_letter, reasons_of}
use Rattle.reasons.proofs.AcceptedLaws.{held_are, shorts_are_small}
use Rattle.reasons.proofs.FieldLaws.{count_read, kept_written, sum_of_counts, sum_read, whole_read}
use Rattle.reasons.proofs.WordLaws.{held_lines, letter_of_calls, letter_of_puts, the_short}
use Rattle.reasons.proofs.line_laws.short_line_has_the_short_calls_and_puts.Goals as goal

module _ (t : AcceptedTables) (holdings : List Holding) (n : ℕ) (ok : AreAccepted t holdings) where
  -- the number of short contracts of a type follows from the HELD lines of the type
  shorts_read : (letter : List ℕ) (is_kind : ProductKind → Bool)
      → ((kind : ProductKind) → bytes_eq (kind_letter kind) letter ≡ is_kind kind)
      → short_by_lines letter (reasons_of t holdings n) ≡ pos (short_count is_kind (held_at t holdings n))
  shorts_read letter is_kind of_kind =
      let held = held_at t holdings n in
      let kept : List HeldContract = filter (λ h. is_kind (h.contract).kind) held in
      let short : Line → ℤ = λ l. pos (negative_part (number_at 0 l 3)) in
      let same : All (λ h. number_at 0 (held_reason t h) 3 ≡ h.net) held =
      λ k d lt. let few = (held_are t holdings ok n).nets k d lt in whole_read (get_or held k d).net (omega (arith, few)) in
      let kept_same = All-filter (λ h. is_kind (h.contract).kind) (λ h. number_at 0 (held_reason t h) 3 ≡ h.net) held same in
      ap (λ ls. int_sum_by short (filter (λ l. bytes_eq (text_at l 1) letter) ls)) (held_lines t holdings n)
      ∙ ap (int_sum_by short) (kept_written (λ l. bytes_eq (text_at l 1) letter) (held_reason t) held)
      ∙ (λ i. int_sum_by short (map (held_reason t) (filter (λ h. of_kind (h.contract).kind i) held)))
      ∙ sum_read (held_reason t) short (λ h. pos (negative_part h.net)) kept
      (λ k d lt. ap (λ z. pos (negative_part z)) (kept_same k d lt))
      ∙ sum_of_counts (λ h. negative_part h.net) kept

pub returns-clause-calls : goal.returns-clause-calls
returns-clause-calls c t holdings n ok =
    let few = shorts_are_small t holdings ok n in
    ap (λ (l : Line). number_at 0 l 0) (the_short t holdings n)
    ∙ count_read (short_count is_call (held_at t holdings n)) (omega (arith, few))
    ∙ sym (shorts_read t holdings n ok (codes "C") is_call letter_of_calls)

pub returns-clause-puts : goal.returns-clause-puts
returns-clause-puts c t holdings n ok =
    let few = shorts_are_small t holdings ok n in
    ap (λ (l : Line). number_at 0 l 1) (the_short t holdings n)
    ∙ count_read (short_count is_put (held_at t holdings n)) (omega (arith, few))
    ∙ sym (shorts_read t holdings n ok (codes "P") is_put letter_of_puts)
