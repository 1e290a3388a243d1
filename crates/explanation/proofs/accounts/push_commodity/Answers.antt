use Rattle.std.proofs.Common.{◌≡◌, ℕ, true, cond, List, [], ◌∷◌, ◌++◌, flat_map, length, get_or, map, sym, ap}
use Rattle.std.proofs.Common.{append_assoc, arith, subst, ◌∙◌}
use Rattle.std.proofs.lemmas.List.{append-nil, get_or_default}
use Rattle.std.proofs.lemmas.List.Folds.{flat_map-map}
use Rattle.std.proofs.lemmas.Grind.{flat_map-append}
use Rattle.span_money.specs.LineFields.{Line, line}
use Rattle.span_money.specs.near.Fields.{field_text}
use Rattle.span_money.specs.declared.line_fields.Field.{Field}
use Rattle.span_tables.specs.Accepted.{IsWithinLimits}
use Rattle.span_tables.specs.Holdings.{ArePortfolio}
use Rattle.span_tables.specs.Net.{AccountHoldings}
use Rattle.span_tables.specs.Tables.{AcceptedTables}
use Rattle.plan_ir.specs.Figures.{commodity_at, figures_of, is_commodity_held, no_commodity}
use Rattle.plan_ir.proofs.FigureBounds.{length-inter_states}
use Rattle.reasons.specs.Reasons.{reasons_of}
use Rattle.reasons.specs.near.Stages.{stages_of}
use Rattle.reasons.specs.near.Fields.{reasons_text}
use Rattle.statement_text.specs.Statement.{commodity_text, figures_line}
use Rattle.explanation.specs.Explanation.{commodity_lines, reason_line}
use Rattle.explanation.proofs.accounts.push_commodity.Goals as goal

-- the lines of a held commodity, after its figures are written
commodity_written : (t : AcceptedTables) (p : AccountHoldings) (c : ℕ) (ids : List Field) (o o1 o2 : List ℕ)
    → is_commodity_held t p.holdings c ≡ true → map field_text ids ≡ p.account ∷ t.set_id ∷ (commodity_at t c).id ∷ []
    → o1 ≡ o ++ reasons_text ids (reasons_of t p.holdings c) → o2 ≡ o1 ++ commodity_text t p c
    → o2 ≡ o ++ flat_map line (commodity_lines t p c)
commodity_written t p c ids o o1 o2 held is first second =
    let id = (commodity_at t c).id in
    let of_ids : Line → Line = reason_line p.account t.set_id id in
    let rs = reasons_of t p.holdings c in
    let figures = figures_line p.account t.set_id id (figures_of t p.holdings c) in
    let shown : commodity_text t p c ≡ line figures = ap (λ b. cond b (line figures) []) held in
    let all : commodity_lines t p c ≡ map of_ids rs ++ figures ∷ [] = ap (λ b. cond b (map of_ids rs ++ figures ∷ []) []) held in
    let reasons : reasons_text ids rs ≡ flat_map line (map of_ids rs) =
    ap (λ texts. flat_map (λ (r : Line). line (record { word = r.word; fields = texts ++ r.fields })) rs) is
    ∙ sym (flat_map-map line of_ids rs) in
    let one_more : flat_map line (map of_ids rs) ++ line figures ≡ flat_map line (map of_ids rs ++ figures ∷ []) =
    ap (λ text. flat_map line (map of_ids rs) ++ text) (sym (append-nil (line figures)))
    ∙ sym (flat_map-append line (map of_ids rs) (figures ∷ [])) in
    second ∙ (λ k. first k ++ shown k) ∙ ap (λ x. (o ++ x) ++ line figures) reasons
    ∙ append_assoc o (flat_map line (map of_ids rs)) (line figures)
    ∙ ap (λ x. o ++ x) one_more ∙ ap (λ ls. o ++ flat_map line ls) (sym all)

pub push_reasons-requires-clause-states : goal.push_reasons-requires-clause-states
push_reasons-requires-clause-states c =
    let t = c.args.row.now.set.tables in
    let holdings = c.args.row.now.portfolio.holdings in
    let tables = c.tables-tables.ensures.tables ∙ ap (λ s. s.tables) (c.deref.ensures ∙ c.set.ensures) in
    let limits : IsWithinLimits t = subst IsWithinLimits tables c.commodities.ensures.limits in
    let kept : ArePortfolio holdings =
    subst (λ (p : AccountHoldings). ArePortfolio p.holdings) c.portfolio.ensures c.known.ensures in
    omega (
      arith,
      c.requires.number,
      ap (λ s. length s.states) c.requires.stages,
      length-inter_states t holdings limits kept c.requires.fits,
    )

pub returns : goal.returns
returns c =
    let t = c.args.row.now.set.tables in
    let p = c.args.row.now.portfolio in
    let n = c.args.number in
    let o = c.args.out.now.items in
    let ids = c.ids_of-ids.result in
    let commodity = c.index-commodities-number.result in
    let tables : c.tables-tables.result.now ≡ t =
    c.tables-tables.ensures.tables ∙ ap (λ s. s.tables) (c.deref.ensures ∙ c.set.ensures) in
    let commodity_is : get_or c.commodities.result.now n commodity ≡ commodity_at t n =
    ap (λ cs. get_or cs n commodity) (c.commodities.ensures.value ∙ ap (λ x. x.commodities) tables)
    ∙ get_or_default t.commodities n commodity no_commodity c.requires.number in
    let ids_are : map field_text ids ≡ p.account ∷ t.set_id ∷ (commodity_at t n).id ∷ [] =
    c.ids_of-ids.ensures ∙ (λ k. c.account.ensures k ∷ c.set_id.ensures k ∷ (commodity_is k).id ∷ []) in
    commodity_written t p n ids o _ _ (sym c.if-not-held.ensures) ids_are
    (c.in_ok-push_reasons.ensures p.holdings (c.requires.stages ∙ ap (λ x. stages_of x p.holdings) (sym tables))
    ∙ ap (λ x. o ++ reasons_text ids (reasons_of x p.holdings n)) tables)
    c.in_ok-push_commodity_of.ensures
