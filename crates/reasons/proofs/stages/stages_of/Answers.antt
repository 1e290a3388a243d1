use Rattle.std.proofs.Common.{◌∙◌}
use Rattle.reasons.specs.near.Stages.{inters_formed}
use Rattle.plan_compiler.proofs.StageLemmas.{states_are}
use Rattle.reasons.proofs.stages.stages_of.Goals as goal

pub form_inters-requires : goal.form_inters-requires
form_inters-requires c = rw c.in_ok-state.ensures.long c.inters.ensures.in_range

pub returns : goal.returns
returns c =
    let states = states_are c.args.tables.now (c.args.portfolio.now).holdings c.form_inters.new.state c.in_ok-state.state
    c.inters.result.now c.in_ok-formed.ensures.states c.in_ok-state.ensures.value c.inters.ensures.value in
    let formed = c.in_ok-formed.ensures.formed
    ∙ (λ k. inters_formed (c.inters.ensures.value k) (c.in_ok-state.ensures.value k)) in
    λ k. record { held = c.in_ok-held.ensures k; states = states k; formed = formed k }
