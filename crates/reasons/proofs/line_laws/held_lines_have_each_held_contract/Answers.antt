use Rattle.std.proofs.Common.{◌≡◌, ◌*◌, ◌≤◌, cond, ℕ, List, [], ◌∷◌, map, get_or, refl, ap, ◌∙◌, arith, true}
use Rattle.std.specs.Prelude.{All, bytes_eq, codes, nat_abs, pos, slice_index_or}
use Rattle.std.specs.Fmt.{decimal, signed_decimal}
use Rattle.span_money.specs.ExactDecimals.{exact_value}
use Rattle.span_money.specs.LineFields.{Line}
use Rattle.span_money.specs.Numbers.{int_sum_by}
use Rattle.span_money.proofs.WordLemmas.{product_size}
use Rattle.span_tables.specs.Tables.{AcceptedTables, facts_in}
use Rattle.span_tables.specs.declared.limits.TheConstants.{MAX_NET, MAX_OPTION_VALUE}
use Rattle.span_tables.specs.declared.portfolios.Holding.{Holding}
use Rattle.inter_credit.specs.OptionValue.{position_value}
use Rattle.inter_credit.specs.Requirement.{is_call, is_put}
use Rattle.plan_ir.specs.Figures.{held_at}
use Rattle.reasons.specs.Laws.{AreAccepted}
use Rattle.reasons.specs.Lines.{number_at, text_at}
use Rattle.reasons.specs.Reasons.{held_reason}
use Rattle.reasons.proofs.AcceptedLaws.{held_are}
use Rattle.reasons.proofs.FieldLaws.{each_read, sum_read, whole_read}
use Rattle.reasons.proofs.WordLaws.{held_lines, letter_of_calls, letter_of_puts}
use Rattle.reasons.proofs.line_laws.held_lines_have_each_held_contract.Goals as goal

pub returns-clause-contracts : goal.returns-clause-contracts
returns-clause-contracts c t holdings n =
    ap (map (λ (l : Line). text_at l 0)) (held_lines t holdings n)
    ∙ each_read (held_reason t) (λ l. text_at l 0) (λ h. (h.contract).id) (held_at t holdings n) (λ k d lt. refl)

pub returns-clause-calls : goal.returns-clause-calls
returns-clause-calls c t holdings n =
    let held = held_at t holdings n in
    ap (map (λ (l : Line). bytes_eq (text_at l 1) (codes "C"))) (held_lines t holdings n)
    ∙ each_read (held_reason t) (λ l. bytes_eq (text_at l 1) (codes "C")) (λ h. is_call (h.contract).kind) held
    (λ k d lt. letter_of_calls ((get_or held k d).contract).kind)

pub returns-clause-puts : goal.returns-clause-puts
returns-clause-puts c t holdings n =
    let held = held_at t holdings n in
    ap (map (λ (l : Line). bytes_eq (text_at l 1) (codes "P"))) (held_lines t holdings n)
    ∙ each_read (held_reason t) (λ l. bytes_eq (text_at l 1) (codes "P")) (λ h. is_put (h.contract).kind) held
    (λ k d lt. letter_of_puts ((get_or held k d).contract).kind)

pub returns-clause-months : goal.returns-clause-months
returns-clause-months c t holdings n =
    ap (map (λ (l : Line). text_at l 2)) (held_lines t holdings n)
    ∙ each_read (held_reason t) (λ l. text_at l 2) (λ h. decimal (h.contract).month) (held_at t holdings n) (λ k d lt. refl)

pub returns-clause-nets : goal.returns-clause-nets
returns-clause-nets c t holdings n ok =
    let held = held_at t holdings n in
    ap (map (λ (l : Line). number_at 0 l 3)) (held_lines t holdings n)
    ∙ each_read (held_reason t) (λ l. number_at 0 l 3) (λ h. h.net) held
    (λ k d lt. let few = (held_are t holdings ok n).nets k d lt in whole_read (get_or held k d).net (omega (arith, few)))

-- reading the field of each position's value gives this value
values_read : (t : AcceptedTables) (holdings : List Holding) (n : ℕ) → AreAccepted t holdings → (facts_in t).options_have_value ≡ true
    → All (λ h. number_at 0 (held_reason t h) 4 ≡ position_value h) (held_at t holdings n)
values_read t holdings n ok has k d lt =
    let are = held_are t holdings ok n in
    let h = get_or (held_at t holdings n) k d in
    let few : nat_abs (position_value h) ≤ MAX_NET * MAX_OPTION_VALUE =
    product_size h.net (pos (h.contract).extras.option_value) MAX_NET MAX_OPTION_VALUE (are.nets k d lt)
    (are.contracts k d lt).option_value in
    ap (λ b. exact_value 0 (slice_index_or (cond b (signed_decimal (position_value h) ∷ []) []) 0 [])) has
    ∙ whole_read (position_value h) (omega (arith, few))

pub returns-clause-each_value : goal.returns-clause-each_value
returns-clause-each_value c t holdings n ok has =
    ap (map (λ (l : Line). number_at 0 l 4)) (held_lines t holdings n)
    ∙ each_read (held_reason t) (λ l. number_at 0 l 4) position_value (held_at t holdings n) (values_read t holdings n ok has)

pub returns-clause-values : goal.returns-clause-values
returns-clause-values c t holdings n ok has =
    ap (int_sum_by (λ l. number_at 0 l 4)) (held_lines t holdings n)
    ∙ sum_read (held_reason t) (λ l. number_at 0 l 4) position_value (held_at t holdings n) (values_read t holdings n ok has)
