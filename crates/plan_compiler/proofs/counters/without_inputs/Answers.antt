use Rattle.std.proofs.Common.{◌≡◌, ◌+◌, ◌-◌, length, ap, sym, ◌∙◌, arith}
use Rattle.plan_compiler.proofs.CounterLemmas.{all_without, none_without, one_with_inputs, one_without_inputs}
use Rattle.plan_compiler.proofs.counters.without_inputs.Goals as goal

pub loop-k-init : goal.loop-k-init
loop-k-init c = rw c.new-steps.ensures.items (none_without c.args.plan.now c.len-k.result c.len-k.ensures)

pub loop-k-preserved : goal.loop-k-preserved
loop-k-preserved c =
    let one_more : c.loop-k.k ≡ c.loop-k.k - 1 + 1 = omega arith in
    one_with_inputs c.args.plan.now c.loop-k.steps.items (c.loop-k.k - 1) c.loop-k.k one_more c.loop-k.invariant
    (λ none. c.if-inputs-eq0.false (ap length c.inputs-inputs.ensures ∙ none))

pub loop-k-preserved-in-Continue-1 : goal.loop-k-preserved-in-Continue-1
loop-k-preserved-in-Continue-1 c =
    let one_more : c.loop-k.k ≡ c.loop-k.k - 1 + 1 = omega arith in
    rw c.in_ok-push.ensures.items
    (one_without_inputs c.args.plan.now c.loop-k.steps.items (c.loop-k.k - 1) c.loop-k.k one_more
    (omega (arith, c.loop-k.auto.k, c.len-k.ensures)) c.loop-k.invariant (sym (ap length c.inputs-inputs.ensures) ∙ c.if-inputs-eq0.true))

pub returns : goal.returns
returns c =
    let none : c.loop-k.k ≡ 0 = omega arith in
    all_without c.args.plan.now c.loop-k.steps.items (rw none at c.loop-k.invariant)
