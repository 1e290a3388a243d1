use Rattle.std.proofs.Common.{◌≡◌, ◌∙◌, ◌∷◌, [], ◌++◌, ℕ, List, ap, append_assoc, sym, arith, length}
use Rattle.std.proofs.lemmas.List.{append-nil}
use Rattle.std.proofs.lemmas.Grind.{flat_map-append}
use Rattle.std.specs.Prelude.{flat_map}
use Rattle.std.specs.List.{range_with_len}
use Rattle.span_money.proofs.LinePartLemmas.{numbered_more, texts_of}
use Rattle.span_money.specs.LineFields.{line}
use Rattle.span_tables.specs.Net.{AccountHoldings}
use Rattle.span_tables.specs.Tables.{AcceptedTables}
use Rattle.plan_ir.specs.Figures.{option_value_of}
use Rattle.statement_text.specs.Statement.{total_line, total_numbers, total_of}
use Rattle.explanation.specs.Explanation.{account_text, commodity_lines}
use Rattle.explanation.proofs.accounts.push_account.Goals as goal

-- the lines of an account, after its total is written
account_written : (t : AcceptedTables) (p : AccountHoldings) (o o1 o2 : List ℕ)
    → o1 ≡ o ++ flat_map (λ c. flat_map line (commodity_lines t p c)) (range_with_len 0 (length t.commodities))
    → o2 ≡ o1 ++ line (total_line p.account t.set_id (total_numbers t (total_of t p) (option_value_of t p.holdings)))
    → o2 ≡ o ++ account_text t p
unfolding account_text
account_written t p o o1 o2 first second =
    let numbers = range_with_len 0 (length t.commodities) in
    let lines = flat_map (commodity_lines t p) numbers in
    let total = total_line p.account t.set_id (total_numbers t (total_of t p) (option_value_of t p.holdings)) in
    let one_more : flat_map line lines ++ line total ≡ flat_map line (lines ++ total ∷ []) =
    ap (λ text. flat_map line lines ++ text) (sym (append-nil (line total))) ∙ sym (flat_map-append line lines (total ∷ [])) in
    second ∙ ap (λ x. x ++ line total) (first ∙ ap (λ x. o ++ x) (sym (texts_of (commodity_lines t p) numbers)))
    ∙ append_assoc o (flat_map line lines) (line total) ∙ ap (λ x. o ++ x) one_more

pub loop-number-preserved : goal.loop-number-preserved
loop-number-preserved c =
    let f : ℕ → List ℕ = λ n. flat_map line (commodity_lines c.args.row.now.set.tables c.args.row.now.portfolio n) in
    let n = c.loop-number.number in
    c.in_ok-push_commodity.ensures ∙ ap (λ t. t ++ f n) c.loop-number.invariant ∙ numbered_more f c.args.out.now.items n

pub returns : goal.returns
returns c =
    let t = c.args.row.now.set.tables in
    let p = c.args.row.now.portfolio in
    let f : ℕ → List ℕ = λ n. flat_map line (commodity_lines t p n) in
    let tables = c.tables-tables.ensures.tables ∙ ap (λ s. s.tables) (c.deref.ensures ∙ c.set.ensures) in
    let count : length c.commodities-number-end.result.now ≡ length t.commodities =
    ap length (c.commodities-number-end.ensures.value ∙ ap (λ x. x.commodities) tables) in
    let all : c.loop-number.number ≡ length t.commodities =
    omega (arith, c.loop-number-test.false, c.loop-number.auto.number-end, count) in
    account_written t p c.args.out.now.items _ _
    (c.loop-number.invariant ∙ ap (λ n. c.args.out.now.items ++ flat_map f (range_with_len 0 n)) all)
    c.in_ok-push_total_of.ensures
