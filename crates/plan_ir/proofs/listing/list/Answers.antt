use Rattle.std.proofs.Common.{◌≡◌, ◌∙◌, ◌<◌, ◌++◌, ℕ, ap, sym, length, flat_map, List, slice_index_or, arith}
use Rattle.plan_ir.proofs.PlaceLemmas.{flat_map_next, take_all}
use Rattle.plan_ir.specs.Listing.{plan_text, step_line}
use Rattle.plan_ir.specs.Plans.{StepView, no_step}
use Rattle.plan_ir.proofs.listing.list.Goals as goal

line_of : ℕ × StepView → List ℕ
line_of numbered = step_line numbered.0 numbered.1

pub loop-k-preserved : goal.loop-k-preserved
unfolding line_of
loop-k-preserved c =
    let plan = c.args.plan.now in
    let k = c.loop-k.k in
    let out = c.loop-k.out.items in
    let below : k < length plan = omega (arith, c.loop-k-test.true, c.len-k-end.ensures) in
    c.in_ok-push_step.ensures
    ∙ ap (λ o. out ++ step_line k (record { op = o; inputs = c.inputs.result.now })) c.op.ensures
    ∙ ap (λ is. out ++ step_line k (record { op = (slice_index_or plan k no_step).op; inputs = is })) c.inputs.ensures
    ∙ ap (λ t. t ++ step_line k (slice_index_or plan k no_step)) c.loop-k.invariant
    ∙ sym (flat_map_next line_of plan k no_step below)

pub returns : goal.returns
unfolding plan_text
returns c =
    let all : c.loop-k.k ≡ length c.args.plan.now = omega (arith, c.loop-k-test.false, c.loop-k.auto.k-end, c.len-k-end.ensures) in
    c.loop-k.invariant ∙ ap (flat_map (λ numbered. step_line numbered.0 numbered.1)) (take_all c.args.plan.now c.loop-k.k all)
