use Rattle.std.proofs.Common.{◌≡◌, ap, false, length, not, sym, true, ◌+◌, ◌∙◌}
use Rattle.std.proofs.lemmas.Bool.{not-false}
use Rattle.span_tables.specs.Tables.{AcceptedTables, facts_in}
use Rattle.span_tables.specs.declared.profiles.ProfileFacts.{ProfileFacts}
use Rattle.plan_ir.specs.Figures.{value_to}
use Rattle.plan_ir.proofs.FigureBounds.{next_value_is_money}
use Rattle.plan_compiler.proofs.Meanings.{value_more}
use Rattle.step_scheduler.proofs.HeldLemmas.{next_part, no_part}
use Rattle.step_scheduler.proofs.PassedOver.{value_with, values_over}
use Rattle.step_scheduler.proofs.parts.value_of_all.Goals as goal

-- options have a value if the facts of the tables say so
valued : (t : AcceptedTables) (facts : ProfileFacts) → facts ≡ facts_in t → not facts.options_have_value ≡ false
    → (facts_in t).options_have_value ≡ true
valued t facts is have = ap (λ (f : ProfileFacts). f.options_have_value) (sym is) ∙ not-false facts.options_have_value have

pub loop-part-init : goal.loop-part-init
unfolding value_to
loop-part-init c = (0, c.requires.parts, c.new-value.ensures)

pub sum-value-requires : goal.sum-value-requires
sum-value-requires c =
    let here = next_part _ _ c.args.parts.now c.loop-part.part-index c.loop-part.invariant.0 c.part-item.result c.loop-part-test.true
    c.part-item.is c.loop-part.invariant.1 in
    let has = valued c.args.tables.now _ c.facts.ensures c.if-not-facts.false in
    rw (value_with _ _ _ _ _ here.0 here.1 has c.loop-part.invariant.2)
    (next_value_is_money _ _ _ c.known.ensures c.known-2.ensures c.requires.fits here.0.known)

pub loop-part-preserved : goal.loop-part-preserved
loop-part-preserved c =
    let here = next_part _ _ c.args.parts.now c.loop-part.part-index c.loop-part.invariant.0 c.part-item.result c.loop-part-test.true
    c.part-item.is c.loop-part.invariant.1 in
    let has = valued c.args.tables.now _ c.facts.ensures c.if-not-facts.false in
    let value = value_with _ _ _ _ _ here.0 here.1 has c.loop-part.invariant.2 in
    (c.part-item.result.commodity + 1, here.2, c.sum-value.ensures ∙ value ∙ value_more _ _ _)

pub returns : goal.returns
returns c =
    let end = no_part _ _ c.args.parts.now c.loop-part.part-index c.loop-part.invariant.0 c.loop-part-test.false c.loop-part.invariant.1 in
    let has = valued c.args.tables.now _ c.facts.ensures c.if-not-facts.false in
    rw has
    (c.loop-part.invariant.2 ∙ values_over _ _ _ (length (c.args.tables.now).commodities) end.behind end.none)
