use Rattle.std.proofs.Common.{◌∙◌, ◌<◌, arith, ap, sym, length, replicate, take, []}
use Rattle.std.proofs.lemmas.List.{length-map, length-replicate}
use Rattle.plan_ir.proofs.UserLemmas.{next_places, no_places}
use Rattle.plan_ir.specs.near.Noting.{noted, places_of_all}
use Rattle.plan_ir.proofs.users.users_by_step.Goals as goal

pub loop-step-init : goal.loop-step-init
loop-step-init c =
    let many = c.len.ensures in
    record {
      users = c.in_ok-users.ensures ∙ ap (λ n. replicate n []) many ∙ no_places (length c.args.inputs.now);
      len = sym (length-map c.in_ok-users.users.items (λ v. v.items)) ∙ ap length c.in_ok-users.ensures
          ∙ length-replicate c.len.result [] ∙ many;
    }

pub loop-step-preserved : goal.loop-step-preserved
loop-step-preserved c =
    let lists = c.args.inputs.now in
    let step = c.loop-step.step in
    let before = c.loop-step.invariant in
    let n = length lists in
    let below : step < n = omega (arith, c.loop-step-test.true, c.len-step-end.ensures) in
    record {
      users = c.in_ok-note.ensures.noted ∙ ap (noted step c.at.result.now) before.users
          ∙ ap (λ x. noted step x (places_of_all n (take step lists))) c.at.ensures
          ∙ next_places n step lists below (c.requires.distinct step [] below)
          (c.requires.in_range step [] below);
      len = c.in_ok-note.ensures.len ∙ before.len;
    }
