use Rattle.std.proofs.Common.{◌≡◌, ◌<◌, length, get_or, sym, ap, arith, ◌∙◌}
use Rattle.std.proofs.lemmas.List.{get_or_default}
use Rattle.plan_ir.specs.Figures.{commodity_at, held_at, inter_states, loaded_states, no_commodity}
use Rattle.reasons.specs.Reasons.{state_after_all}
use Rattle.reasons.specs.near.Stages.{inters_formed}
use Rattle.plan_compiler.proofs.StageLemmas.{held_read}
use Rattle.reasons.proofs.StageLemmas.{state_read, reasons_are}
use Rattle.reasons.proofs.stages.push_reasons.Goals as goal

pub returns : goal.returns
returns c = λ holdings is.
    let t = c.args.tables.now in
    let i = c.args.commodity in
    let stages = c.stages.view_is ∙ is in
    let read = c.index.result.now in
    let held = c.as_held-held.result in
    let state = c.index-states-commodity.result in
    let commodity = c.index-commodities-commodity.result in
    let held_is : held ≡ held_at t holdings i =
    c.as_held-held.ensures ∙ (c.index.ensures ∙ ap (λ hs. get_or hs i read) (ap (λ s. s.held) stages)
    ∙ held_read t holdings i read c.requires.commodity) in
    let states : c.states.result.now ≡ inter_states t holdings = c.states.ensures.value ∙ ap (λ s. s.states) stages in
    let among : i < length (inter_states t holdings) =
    omega (arith, c.requires.states, ap (λ s. length s.states) is) in
    let state_is : state ≡ state_after_all t holdings i =
    state_read (inter_states t holdings) i state among (c.index-states-commodity.is ∙ ap (λ ls. get_or ls i state) states) in
    let commodity_is : commodity ≡ commodity_at t i =
    c.index-commodities-commodity.is ∙ ap (λ cs. get_or cs i commodity) c.commodities.ensures.value
    ∙ get_or_default t.commodities i commodity no_commodity c.requires.commodity in
    let loaded = loaded_states t holdings in
    let formed : c.deref.result.now ≡ inters_formed c.inters.result.now loaded =
    c.deref.ensures.value ∙ ap (λ s. s.formed) stages
    ∙ sym (ap (λ xs. inters_formed xs loaded) c.inters.ensures.value) in
    reasons_are t holdings i c.args.ids.now c.args.out.now.items _ _ _ _ _ _ held c.inters.result.now state commodity
    held_is c.inters.ensures.value state_is commodity_is c.in_ok-push_held.ensures c.in_ok-push_scan.ensures
    (c.in_ok-push_month_reasons.ensures holdings held_is) (c.in_ok-push_inters.ensures loaded formed)
    c.in_ok-push_credit.ensures c.in_ok-push_short.ensures
