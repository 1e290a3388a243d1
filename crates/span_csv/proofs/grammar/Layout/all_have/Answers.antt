use Rattle.std.proofs.Common.{◌∙◌, arith, sym, refl, ap, length, true, false}
use Rattle.span_csv.specs.near.Grammar.{passes}
use Rattle.span_csv.proofs.FormLemmas.{layout_length}
use Rattle.span_csv.proofs.TestLemmas.{layout_told}
use Rattle.span_csv.proofs.grammar.Layout.all_have.Goals as goal

pub all_from-requires-3-clause-room : goal.all_from-requires-3-clause-room
all_from-requires-3-clause-room c =
    let l = c.self.inside in
    omega (arith, c.requires, ap length c.self.view_is, layout_length l.front.now l.middle.now l.back.now)

pub returns-then-not-all_from : goal.returns-then-not-all_from
returns-then-not-all_from c =
    let l = c.self.inside in
    layout_told (passes c.args.test) l.front.now l.middle.now l.back.now c.args.row.now _ c.self.view_is
    false _ _ (sym c.if-not-all_from.true ∙ c.all_from.ensures) refl refl

pub returns-then-not-all_from-2 : goal.returns-then-not-all_from-2
returns-then-not-all_from-2 c =
    let l = c.self.inside in
    layout_told (passes c.args.test) l.front.now l.middle.now l.back.now c.args.row.now _ c.self.view_is
    true false _ (sym c.if-not-all_from.false ∙ c.all_from.ensures) (sym c.if-not-all_from-2.true ∙ c.all_from-2.ensures) refl

pub returns : goal.returns
returns c =
    let l = c.self.inside in
    layout_told (passes c.args.test) l.front.now l.middle.now l.back.now c.args.row.now _ c.self.view_is
    true true _ (sym c.if-not-all_from.false ∙ c.all_from.ensures) (sym c.if-not-all_from-2.false ∙ c.all_from-2.ensures)
    c.all_from-3.ensures
